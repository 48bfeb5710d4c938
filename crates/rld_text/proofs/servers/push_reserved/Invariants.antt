use Rattle.std.proofs.Common.{◌≡◌, ◌++◌, take}
use Rattle.std.specs.List.{flat_map}
use Rattle.rld_text.specs.Metrics.{reserved_line}
use Rattle.rld_text.proofs.servers.push_reserved.Given as goal

-- the lines of the access servers that were looked at
abbrev pub invariant-loop-server : goal.invariant-loop-server
invariant-loop-server l = l.out.items ≡ l.fn.out.items ++ flat_map reserved_line (take l.server-index l.servers)
