use Rattle.std.proofs.Common.{ap}
use Rattle.rsl_event.specs.declared.event.Decision.{Decision}
use Rattle.rsl_session.specs.Book.{Book}
use Rattle.rsl_session.proofs.BookJoined.{joins}
use Rattle.rsl_session.proofs.laws.accept_number_law.Goals as goal

pub returns : goal.returns
returns c rules past event ruled = ap (λ (next : Book × Decision). next.0.accepts) (joins rules past event ruled)
