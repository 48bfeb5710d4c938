use Rattle.std.proofs.Common.{◌≡◌, List, ◌++◌, length, map, take}
use Rattle.rld_counts.specs.Cell.{HasCounted}
use Rattle.rld_counts.specs.Counted.{within}
use Rattle.rld_counts.specs.declared.counted.Counted.{Counted}
use Rattle.rld_counts.proofs.cell.Cell.note_turn.Given as goal

-- those that were looked at are counted
abbrev pub invariant-loop-counted : goal.invariant-loop-counted
invariant-loop-counted l = record {
  noted : (all : List Counted) → HasCounted all l.fn.self → HasCounted (all ++ map (within l.micros) (take l.counted-index l.turn)) l.self;
  clients : length l.self.clients ≡ length l.fn.self.clients;
}
