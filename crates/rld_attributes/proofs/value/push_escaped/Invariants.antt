use Rattle.std.proofs.Common.{◌≡◌, ◌++◌, length}
use Rattle.std.specs.List.{flat_map}
use Rattle.rld_attributes.specs.Value.{escaped}
use Rattle.rld_attributes.proofs.value.push_escaped.Given as goal

-- what is written, and what is left to write
abbrev pub invariant-loop-value : goal.invariant-loop-value
invariant-loop-value l = l.out.items ++ flat_map escaped l.value ≡ l.fn.out.items ++ flat_map escaped l.initial.value

abbrev pub decreases-loop-value : goal.decreases-loop-value
decreases-loop-value l = length l.value
