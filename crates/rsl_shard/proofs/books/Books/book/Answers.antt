use Rattle.std.proofs.Common.{◌≡◌, ◌+◌, ◌*◌, ◌<◌, Some, length, arith, rules, sym, subst}
use Rattle.rsl_shard.specs.Restep.{AreBooks, BooksSeen, book_at}
use Rattle.rsl_shard.specs.BooksSeen.{setup_inside}
use Rattle.rsl_shard.proofs.Moving.{no_book, stands}
use Rattle.rsl_shard.proofs.books.Books.book.Goals as goal

pub returns-then-has-clause-some : goal.returns-then-has-clause-some
returns-then-has-clause-some c =
    let at : c.args.account ≡ c.self.inside.shard + c.index_of.result * c.self.inside.shards =
    subst (λ (seen : BooksSeen). c.args.account ≡ seen.setup.shard + c.index_of.result * seen.setup.shards) (sym c.self.view_is) c.index_of.ensures.index in
    let within : c.index_of.result < length c.self.inside.list.items =
    subst (λ (seen : BooksSeen). c.index_of.result < length seen.books) (sym c.self.view_is) c.index_of.ensures.within in
    subst (λ (seen : BooksSeen). book_at seen.setup seen.books c.args.account ≡ Some c.index.result.now) c.self.view_is
    (stands (setup_inside c.self.inside) c.self.inside.list.items c.args.account c.index_of.result c.index.result.now (omega arith) at within c.index.ensures)

pub returns-else-has-clause-none : goal.returns-else-has-clause-none
returns-else-has-clause-none c =
    no_book c.args.self.now.setup c.args.self.now.books c.args.account
    (subst (λ (seen : BooksSeen). AreBooks seen.setup seen.books) c.self.view_is c.self.invariant) (search rules)
