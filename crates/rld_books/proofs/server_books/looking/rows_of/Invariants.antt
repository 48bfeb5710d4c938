use Rattle.std.proofs.Common.{◌≡◌, ◌++◌, drop}
use Rattle.rsl_shard.specs.Rows.{rows_from}
use Rattle.rld_books.specs.Saved.{rows_in}
use Rattle.rld_books.proofs.server_books.looking.rows_of.Given as goal

-- the rows of the books that were looked at, and those of the others, are all rows
abbrev pub invariant-loop-book : goal.invariant-loop-book
invariant-loop-book l = record {
  number : l.account ≡ l.book-index;
  rows : l.rows.items ++ rows_from l.account 1 (drop l.book-index l.books) ≡ rows_in l.books;
}
