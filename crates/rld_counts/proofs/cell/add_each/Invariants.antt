use Rattle.std.proofs.Common.{◌≡◌, ◌<◌, ◌≤◌, ℕ, [], length, get_or}
use Rattle.rld_counts.specs.Cell.{AreJoined}
use Rattle.rld_counts.proofs.cell.add_each.Given as goal

-- the clients before this one have been added to, and the others are as they were
abbrev pub invariant-loop-client : goal.invariant-loop-client
invariant-loop-client l = record {
  len : length l.clients ≡ length l.fn.clients;
  joined : (k : ℕ) → k < l.client → AreJoined (get_or l.fn.clients k []) (get_or l.others k []) (get_or l.clients k []);
  rest : (k : ℕ) → l.client ≤ k → get_or l.clients k [] ≡ get_or l.fn.clients k [];
}
