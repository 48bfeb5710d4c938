use Rattle.rsl_session.specs.Rule.{past_of}
use Rattle.rsl_session.proofs.Callers.{IsRuled-past_of}
use Rattle.rsl_rule.proofs.Lowest.{lowest}
use Rattle.rsl_rule.proofs.laws.lowest_reservation_is_taken.Goals as goal

pub returns : goal.returns
returns c = λ rules events event nas link other a b taken number named. lowest rules (past_of rules events) event nas link other a b (IsRuled-past_of rules events) taken number named
