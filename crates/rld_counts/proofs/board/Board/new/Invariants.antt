use Rattle.std.proofs.Common.{◌≡◌, length, map, take}
use Rattle.std.specs.List.{range_with_len}
use Rattle.rld_counts.proofs.board.Board.new.Given as goal

abbrev pub invariant-loop-gate : goal.invariant-loop-gate
invariant-loop-gate l = record {
  gates : map (λ place. place.gate) l.places.items ≡ take l.gate-index l.gates;
  numbers : map (λ place. place.number) l.places.items ≡ range_with_len 0 l.gate-index;
  len : length l.places.items ≡ l.gate-index;
}
