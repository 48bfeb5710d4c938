use Rattle.rsl_rule.proofs.EarlyTick.{early}
use Rattle.rsl_rule.proofs.laws.early_ticks_change_no_decision.Goals as goal

pub returns : goal.returns
returns c = early
