use Rattle.std.proofs.Common.{◌≡◌, ℕ, All, length}
use Rattle.rld_counts.proofs.board.new_counts.Given as goal

abbrev pub invariant-loop : goal.invariant-loop
invariant-loop l = record {
  len : length l.each.items ≡ l.counter;
  clients : All (λ (one : ℕ). one ≡ l.clients) l.each.items;
}
