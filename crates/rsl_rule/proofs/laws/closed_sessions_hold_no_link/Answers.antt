use Rattle.rsl_session.specs.Rule.{past_of}
use Rattle.rsl_session.proofs.Callers.{IsRuled-past_of}
use Rattle.rsl_rule.proofs.ClosedHeld.{closed_unheld}
use Rattle.rsl_rule.proofs.laws.closed_sessions_hold_no_link.Goals as goal

pub returns : goal.returns
returns c = λ rules events event session closed. closed_unheld rules (past_of rules events) event session (IsRuled-past_of rules events) closed
