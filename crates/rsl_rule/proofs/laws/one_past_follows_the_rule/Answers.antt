use Rattle.rsl_session.proofs.Callers.{same_past}
use Rattle.rsl_rule.proofs.laws.one_past_follows_the_rule.Goals as goal

pub returns : goal.returns
returns c = same_past
