use Rattle.std.proofs.Common.{◌≡◌, take}
use Rattle.std.specs.List.{flat_map}
use Rattle.rsl_replay.specs.Steps.{steps_of_line}
use Rattle.rsl_replay.proofs.steps.steps_of.Given as goal

abbrev pub invariant-loop-line : goal.invariant-loop-line
invariant-loop-line l = l.steps.items ≡ flat_map (steps_of_line l.config l.boot) (take l.line-index l.lines)
