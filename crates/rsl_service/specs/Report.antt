-- The report of a service on its accounts.
use Rattle.std.specs.Prelude.{◌≡◌, ℕ, ◌<◌, ◌≤◌, List, length, Option, Some, None, set, slice_get}
use Rattle.rsl_accounts.specs.declared.entry.Entry.{Entry}
use Rattle.rsl_book.specs.RuledBook.{RuledBook}
use Rattle.rsl_shard.specs.Restep.{book_at}
use Rattle.rsl_shard.specs.Rows.{row_of}
use Rattle.rsl_shard.specs.Seen.{ShardSeen, books_of}
use Rattle.rsl_shard.specs.declared.row.Row.{Row}

-- the row of an account, with the places of its entry, and no more held
pub record IsRowOf (account : ℕ) (entry : Entry) (row : Row) : Type 0 where
  pub numbered : row.account ≡ account
  pub places : row.places ≡ entry.rules.places
  pub limit : row.held ≤ row.places

-- a row for each account, in file order
pub record IsReport (accounts : List Entry) (rows : List Row) : Type 0 where
  pub one_each : length rows ≡ length accounts
  pub each : (account : ℕ) (entry : Entry) (row : Row) → slice_get accounts account ≡ Some entry
      → slice_get rows account ≡ Some row → IsRowOf account entry row

-- the book of an account in a shard, if the account is one of the shard
abbrev pub shown_book : ShardSeen → (account : ℕ) → Option RuledBook
shown_book shard account = book_at shard.setup (books_of shard) account

-- the rows, with that of an account shown by its book, if there is one
abbrev pub with_book : (account : ℕ) → Option RuledBook → List Row → List Row
with_book account None rows = rows
with_book account (Some ruled) rows = set rows account (row_of account ruled)

-- Of the first `many` accounts, each one of the shard has the row that its book shows. All other
-- rows are as they were.
pub record AreShown (many : ℕ) (shard : ShardSeen) (old new : List Row) : Type 0 where
  pub shown : (account : ℕ) (ruled : RuledBook) → account < many
      → shown_book shard account ≡ Some ruled
      → slice_get new account ≡ Some (row_of account ruled)
  pub others : (account : ℕ) → shown_book shard account ≡ None
      → slice_get new account ≡ slice_get old account
  pub later : (account : ℕ) → many ≤ account → slice_get new account ≡ slice_get old account
