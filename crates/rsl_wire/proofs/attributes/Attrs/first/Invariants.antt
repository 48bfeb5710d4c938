use Rattle.std.proofs.Common.{◌≡◌}
use Rattle.rsl_wire.specs.Attributes.{first_of}
use Rattle.rsl_wire.proofs.attributes.Attrs.first.Given as goal

abbrev pub invariant-loop-other : goal.invariant-loop-other
invariant-loop-other l = first_of l.kind l.other-iterator ≡ first_of l.kind l.self
