use Rattle.std.proofs.Common.{◌≡◌, ◌++◌, length, take, All}
use Rattle.std.specs.List.{flat_map}
use Rattle.rld_spelling.specs.Numbers.{number_octets}
use Rattle.rld_spelling.specs.Books.{book_field, book_octets, books_seen}
use Rattle.rld_store.proofs.beginning.snapshot_of.Given as goal

abbrev pub invariant-loop-book : goal.invariant-loop-book
invariant-loop-book l = record {
  spelled : l.octets.items ≡ number_octets (length l.books) ++ flat_map book_octets (books_seen (take l.book-index l.books));
  fit : All (book_field l.clients).Fits (books_seen (take l.book-index l.books));
}
