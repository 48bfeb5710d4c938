use Rattle.std.proofs.Common.{arith}
use Rattle.rsl_session.specs.Book.{is_live_at, live_in}
use Rattle.rsl_book.proofs.Insides.{few_of}
use Rattle.rsl_book.proofs.book.Book.live.Goals as goal

pub returns-clause-live : goal.returns-clause-live
unfolding live_in
returns-clause-live c = rw (← c.self.view_is) (c.live.ensures c.self.inside.servers)

pub returns-clause-few : goal.returns-clause-few
returns-clause-few c =
    let few = few_of (is_live_at c.self.inside.rules c.self.inside.clock) c.self.inside c.self.invariant in
    let all = c.live.ensures c.self.inside.servers in
    omega (arith, few, all)
