use Rattle.std.proofs.Common.{◌≢◌, ℕ, ◌<◌}
use Rattle.rsl_links.specs.Seen.{server_at}
use Rattle.rsl_links.proofs.servers.Servers.find.Given as goal

abbrev pub invariant-loop-at : goal.invariant-loop-at
invariant-loop-at l = (x : ℕ) → x < l.at → server_at l.self x ≢ l.nas
