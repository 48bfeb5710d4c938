use Rattle.std.proofs.Common.{take}
use Rattle.rld_log.specs.Memory.{reaches}
use Rattle.rld_log.proofs.memory.left_by.Given as goal

abbrev pub invariant-loop-step : goal.invariant-loop-step
invariant-loop-step l = reaches l.synced (take l.step-index l.steps) l.ending l.left.items
