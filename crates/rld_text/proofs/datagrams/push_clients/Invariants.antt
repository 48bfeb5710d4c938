use Rattle.std.proofs.Common.{◌≡◌, ◌++◌, take}
use Rattle.std.specs.List.{flat_map}
use Rattle.rld_text.specs.Metrics.{client_lines}
use Rattle.rld_text.proofs.datagrams.push_clients.Given as goal

-- the lines of the clients that were looked at
abbrev pub invariant-loop-client : goal.invariant-loop-client
invariant-loop-client l = l.out.items ≡ l.fn.out.items ++ flat_map client_lines (take l.client-index l.clients)
