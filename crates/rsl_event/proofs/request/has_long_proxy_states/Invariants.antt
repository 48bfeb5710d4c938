use Rattle.std.proofs.Common.{◌≡◌, ◌+◌, ◌≤◌}
use Rattle.rsl_event.specs.Request.{proxy_len}
use Rattle.rsl_event.proofs.request.has_long_proxy_states.Given as goal

-- those counted, and those among what is left
abbrev pub invariant-loop-kind : goal.invariant-loop-kind
invariant-loop-kind l = record {
  counted : l.len + proxy_len l.kind-iterator ≡ proxy_len l.attributes;
  short : l.len ≤ l.most;
}
