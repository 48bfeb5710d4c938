use Rattle.std.proofs.Common.{arith}
use Rattle.rsl_session.specs.Book.{BookLink, is_reservation, reserved_in}
use Rattle.rsl_book.proofs.Insides.{few_of}
use Rattle.rsl_book.proofs.book.Book.reserved.Goals as goal

pub returns-clause-reserved : goal.returns-clause-reserved
unfolding reserved_in
returns-clause-reserved c = rw (← c.self.view_is) (c.reserved.ensures c.self.inside.servers)

pub returns-clause-few : goal.returns-clause-few
returns-clause-few c =
    let few = few_of (λ (link : BookLink). is_reservation link.holder) c.self.inside c.self.invariant in
    let all = c.reserved.ensures c.self.inside.servers in
    omega (arith, few, all)
