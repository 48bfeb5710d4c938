use Rattle.std.proofs.Common.{◌≡◌, map, take}
use Rattle.rsl_book.specs.Seen.{stop_seen}
use Rattle.rsl_book.proofs.saving.saved_stops.Given as goal

abbrev pub invariant-loop-index : goal.invariant-loop-index
invariant-loop-index l = l.saved.items ≡ map (stop_seen l.servers) (take l.index l.stops.items)
