use Rattle.std.proofs.Common.{◌≡◌, ◌++◌}
use Rattle.std.specs.List.{AllByRecursion}
use Rattle.rsl_wire.specs.Attributes.{IsAttribute}
use Rattle.rld_attributes.specs.Listed.{listed}
use Rattle.rld_attributes.proofs.listed.push_lines.Given as goal

-- what is written, and what is left to write
abbrev pub invariant-loop-kind : goal.invariant-loop-kind
invariant-loop-kind l = record {
  each : AllByRecursion IsAttribute l.kind-iterator;
  written : l.out.items ++ listed l.names l.kind-iterator ≡ l.fn.out.items ++ listed l.names l.attributes;
}
