use Rattle.rsl_steps.proofs.EarlyTicks.{early_ticks}
use Rattle.rsl_steps.proofs.laws.early_ticks_change_nothing.Goals as goal

pub returns : goal.returns
returns c = early_ticks c.early_ticks_change_no_decision.ensures
