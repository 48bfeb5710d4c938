use Rattle.std.proofs.Common.{◌≡◌}
use Rattle.rld_look.specs.AccessServers.{joined}
use Rattle.rld_look.proofs.servers.joined.Given as goal

-- the rows of those that were joined
abbrev pub invariant-loop-server : goal.invariant-loop-server
invariant-loop-server l = l.rows.items ≡ joined l.yielded
