use Rattle.rsl_session.proofs.Callers.{IsRuled-past_of}
use Rattle.rsl_rule.proofs.Whole.{events_of}
use Rattle.rsl_rule.proofs.laws.pasts_follow_the_rule.Goals as goal

pub returns : goal.returns
returns c = λ rules events. (IsRuled-past_of rules events, events_of rules events)
