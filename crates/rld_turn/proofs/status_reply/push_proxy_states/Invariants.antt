use Rattle.std.proofs.Common.{◌≡◌, ◌+◌, ◌≤◌, length}
use Rattle.std.specs.List.{AllByRecursion}
use Rattle.rsl_wire.specs.Attributes.{IsAttribute, list_octets}
use Rattle.rsl_event.specs.Draft.{with_more}
use Rattle.rsl_event.specs.Request.{proxy_states, proxy_len}
use Rattle.rld_turn.proofs.status_reply.push_proxy_states.Given as goal

-- what is written, and what is left to write
abbrev pub invariant-loop-kind : goal.invariant-loop-kind
invariant-loop-kind l = record {
  each : AllByRecursion IsAttribute l.kind-iterator;
  room : 20 + (length l.draft.attributes + proxy_len l.kind-iterator) ≤ 4096;
  written : with_more l.draft (list_octets (proxy_states l.kind-iterator)) ≡ with_more l.fn.draft (list_octets (proxy_states l.attributes));
  kept : length l.fn.draft.attributes ≤ length l.draft.attributes;
}
