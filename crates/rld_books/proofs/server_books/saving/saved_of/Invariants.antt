use Rattle.std.proofs.Common.{◌≡◌, All, map, take}
use Rattle.rsl_book.specs.Restored.{saved}
use Rattle.rsl_session.specs.Saved.{saved_book}
use Rattle.rld_books.specs.Saved.{IsFit}
use Rattle.rld_books.proofs.server_books.saving.saved_of.Given as goal

abbrev pub invariant-loop-book : goal.invariant-loop-book
invariant-loop-book l = record {
  saved : map saved_book l.kept.items ≡ map saved (take l.book-index l.books);
  fit : All IsFit (take l.book-index l.books);
}
