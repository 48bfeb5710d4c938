use Rattle.std.proofs.Common.{length, ◌-◌, ◌≤◌}
use Rattle.rsl_wire.specs.Attributes.{attribute_list}
use Rattle.rsl_wire.proofs.AttributeLaws.{Follows}
use Rattle.rsl_wire.proofs.attributes.Attrs.checked.Given as goal

-- what is left decides what the whole is read as
abbrev pub invariant-loop-rest : goal.invariant-loop-rest
invariant-loop-rest l = record {
  within : length l.rest ≤ length l.octets;
  follows : Follows (attribute_list l.rest) (length l.octets - length l.rest) (attribute_list l.octets);
}

abbrev pub decreases-loop-rest : goal.decreases-loop-rest
decreases-loop-rest l = length l.rest
