use Rattle.std.proofs.Common.{◌≡◌, ℕ, ◌<◌, true}
use Rattle.rsl_book.specs.Named.{is_named}
use Rattle.rsl_book.proofs.table.free_index.Given as goal

abbrev pub invariant-loop-index : goal.invariant-loop-index
invariant-loop-index l = (j : ℕ) → j < l.index → is_named l.links.items l.asks.items l.stops.items j ≡ true
