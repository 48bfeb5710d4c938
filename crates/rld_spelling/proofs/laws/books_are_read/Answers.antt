use Rattle.rld_spelling.proofs.BookLaws.{book_read, books_read}
use Rattle.rld_spelling.proofs.laws.books_are_read.Goals as goal

pub returns : goal.returns
returns c = record { books = book_read; snapshots = books_read }
