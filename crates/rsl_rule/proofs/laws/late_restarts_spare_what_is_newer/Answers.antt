use Rattle.rsl_session.specs.Rule.{past_of}
use Rattle.rsl_rule.proofs.Swept.{has_swept}
use Rattle.rsl_rule.proofs.laws.late_restarts_spare_what_is_newer.Goals as goal

pub returns : goal.returns
returns c = λ rules events event nas delay swept. has_swept rules (past_of rules events) event nas delay swept
