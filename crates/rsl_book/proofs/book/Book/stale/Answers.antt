use Rattle.std.proofs.Common.{arith}
use Rattle.rsl_session.specs.Book.{is_stale_at, stale_in}
use Rattle.rsl_book.proofs.Insides.{few_of}
use Rattle.rsl_book.proofs.book.Book.stale.Goals as goal

pub returns-clause-stale : goal.returns-clause-stale
unfolding stale_in
returns-clause-stale c = rw (← c.self.view_is) (c.stale.ensures c.self.inside.servers)

pub returns-clause-few : goal.returns-clause-few
returns-clause-few c =
    let few = few_of (is_stale_at c.self.inside.rules c.self.inside.clock) c.self.inside c.self.invariant in
    let all = c.stale.ensures c.self.inside.servers in
    omega (arith, few, all)
