use Rattle.std.proofs.Common.{◌≡◌, List, ◌++◌, length, replicate}
use Rattle.rld_counts.specs.Cell.{HasCounted}
use Rattle.rld_counts.specs.Counted.{unread}
use Rattle.rld_counts.specs.declared.counted.Counted.{Counted}
use Rattle.rld_counts.proofs.cell.Cell.note_unread.Given as goal

-- so many are counted
abbrev pub invariant-loop : goal.invariant-loop
invariant-loop l = record {
  noted : (all : List Counted) → HasCounted all l.fn.self → HasCounted (all ++ replicate l.counter (unread l.fate)) l.self;
  clients : length l.self.clients ≡ length l.fn.self.clients;
}
