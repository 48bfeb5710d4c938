use Rattle.std.proofs.Common.{◌≡◌, ◌++◌, take}
use Rattle.std.specs.List.{flat_map}
use Rattle.rld_counts.specs.Counts.{count_in}
use Rattle.rld_counts.specs.Fates.{at, causes_at}
use Rattle.rld_look.specs.Line.{left_out_if_any}
use Rattle.rld_look.proofs.line.push_left_out_at.Given as goal

-- the lines of the causes that were looked at
abbrev pub invariant-loop-cause : goal.invariant-loop-cause
invariant-loop-cause l =
    l.out.items ≡ l.fn.out.items ++ flat_map (λ cause. left_out_if_any l.sink (at l.gate cause) (count_in l.left_out (at l.gate cause))) (take l.cause-index (causes_at l.gate))
