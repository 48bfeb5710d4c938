use Rattle.std.proofs.Common.{◌≡◌, ◌+◌, ◌≤◌, length}
use Rattle.rsl_event.specs.Request.{proxy_len}
use Rattle.rsl_wire.specs.Attributes.{list_octets}
use Rattle.rld_turn.proofs.status_request.proxy_len.Given as goal

-- those counted, and those among what is left
abbrev pub invariant-loop-kind : goal.invariant-loop-kind
invariant-loop-kind l = record {
  counted : l.len + proxy_len l.kind-iterator ≡ proxy_len l.attributes;
  short : l.len + length (list_octets l.kind-iterator) ≤ 4096;
}
