-- The rows of a report on the books of a shard.
use Rattle.std.specs.Prelude.{ℕ, ◌+◌, List, [], ◌∷◌}
use Rattle.rsl_book.specs.RuledBook.{RuledBook}
use Rattle.rsl_session.specs.Book.{live_in, places_in, reserved_in, stale_in}
use Rattle.rsl_shard.specs.Setup.{Setup}
use Rattle.rsl_shard.specs.declared.row.Row.{Row}

-- what an account holds at its book's own clock
abbrev pub row_of : (account : ℕ) → RuledBook → Row
row_of account ruled = record {
  account = account;
  places = ruled.rules.places;
  held = places_in ruled.rules ruled.book;
  reserved = reserved_in ruled.book;
  live = live_in ruled.rules ruled.book;
  stale = stale_in ruled.rules ruled.book;
  over = ruled.book.over;
}

-- the rows of the account `first` and of those after it in its shard
unfoldable pub rows_from : (first shards : ℕ) → List RuledBook → List Row
rows_from first shards [] = []
rows_from first shards (ruled ∷ books) =
    row_of first ruled ∷ rows_from (first + shards) shards books

-- the rows of a shard
abbrev pub rows_of : Setup → List RuledBook → List Row
rows_of setup books = rows_from setup.shard setup.shards books
