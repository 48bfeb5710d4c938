use Rattle.rsl_session.specs.Rule.{past_of}
use Rattle.rsl_rule.proofs.Repeats.{repeats_are}
use Rattle.rsl_rule.proofs.laws.repeats_are_decided_as_a_fresh_ask.Goals as goal

pub returns : goal.returns
returns c = λ rules events event decision is. repeats_are rules (past_of rules events) event decision is
