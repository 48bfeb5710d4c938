use Rattle.std.proofs.Common.{◌≡◌, map, take}
use Rattle.rsl_book.specs.Seen.{ask_seen}
use Rattle.rsl_book.proofs.saving.saved_asks.Given as goal

abbrev pub invariant-loop-index : goal.invariant-loop-index
invariant-loop-index l = l.saved.items ≡ map (ask_seen l.servers) (take l.index l.asks.items)
