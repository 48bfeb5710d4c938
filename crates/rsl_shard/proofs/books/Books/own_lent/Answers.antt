use Rattle.std.proofs.Common.{◌≡◌, ◌+◌, ◌*◌, ◌<◌, length, subst, sym, ap, ◌∙◌, arith}
use Rattle.rsl_shard.specs.BooksSeen.{setup_inside}
use Rattle.rsl_shard.specs.Restep.{BooksSeen, books_after, decision_by}
use Rattle.rsl_shard.specs.declared.moved.Move.TheVariants as moves
use Rattle.rsl_shard.proofs.Moving.{own_books, own_decision}
use Rattle.rsl_shard.proofs.books.Books.own_lent.Goals as goal

pub returns-clause-books : goal.returns-clause-books
returns-clause-books c =
    let at : c.args.account ≡ c.self.inside.shard + c.index_of-index.result * c.self.inside.shards =
    subst (λ (seen : BooksSeen). c.args.account ≡ seen.setup.shard + c.index_of-index.result * seen.setup.shards) (sym c.self.view_is) c.index_of-index.ensures.index in
    let within : c.index_of-index.result < length c.self.inside.list.items =
    subst (λ (seen : BooksSeen). c.index_of-index.result < length seen.books) (sym c.self.view_is) c.index_of-index.ensures.within in
    own_books (setup_inside c.self.inside) c.self.inside.list.items c.args.account c.index_of-index.result c.args.event.now c.index_mut.result.now c.apply_lent.new.self c.in_ok-decision.decision
    (omega arith) at within c.index_mut.ensures.value c.in_ok-decision.ensures.step c.apply_lent.ensures.rules
    ∙ ap (λ (seen : BooksSeen). books_after seen.setup seen.books (moves.Own c.args.account c.args.event.now)) c.self.view_is

pub returns-clause-decision : goal.returns-clause-decision
returns-clause-decision c =
    let at : c.args.account ≡ c.self.inside.shard + c.index_of-index.result * c.self.inside.shards =
    subst (λ (seen : BooksSeen). c.args.account ≡ seen.setup.shard + c.index_of-index.result * seen.setup.shards) (sym c.self.view_is) c.index_of-index.ensures.index in
    let within : c.index_of-index.result < length c.self.inside.list.items =
    subst (λ (seen : BooksSeen). c.index_of-index.result < length seen.books) (sym c.self.view_is) c.index_of-index.ensures.within in
    own_decision (setup_inside c.self.inside) c.self.inside.list.items c.args.account c.index_of-index.result c.args.event.now c.index_mut.result.now c.apply_lent.new.self.book c.in_ok-decision.decision
    (omega arith) at within c.index_mut.ensures.value c.in_ok-decision.ensures.step
    ∙ ap (λ (seen : BooksSeen). decision_by seen.setup seen.books (moves.Own c.args.account c.args.event.now)) c.self.view_is
