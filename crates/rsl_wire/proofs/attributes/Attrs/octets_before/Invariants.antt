use Rattle.std.proofs.Common.{◌≡◌, ◌+◌, ◌≤◌, length}
use Rattle.rsl_wire.specs.Attributes.{list_octets, octets_before}
use Rattle.rsl_wire.proofs.attributes.Attrs.octets_before.Given as goal

-- those counted, and those before the first of the Type among what is left
abbrev pub invariant-loop-found : goal.invariant-loop-found
invariant-loop-found l = record {
  counted : l.len + octets_before l.kind l.found-iterator ≡ octets_before l.kind l.self;
  short : l.len + length (list_octets l.found-iterator) ≤ length (list_octets l.self);
}
