use Rattle.std.proofs.Common.{◌≡◌, ◌-◌}
use Rattle.rld_spelling.specs.Lists.{values_at}
use Rattle.rld_spelling.proofs.Callers.{with_front}
use Rattle.rld_spelling.specs.Books.{book_at, books_seen}
use Rattle.rld_spelling.proofs.book.read_book_count.Given as goal

abbrev pub invariant-loop : goal.invariant-loop
invariant-loop l =
    with_front (books_seen l.books.items) (values_at (book_at l.clients) (l.count - l.counter) l.reader) ≡ values_at (book_at l.clients) l.count l.fn.reader
