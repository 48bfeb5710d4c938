use Rattle.std.proofs.Common.{◌≡◌, take}
use Rattle.rsl_shard.proofs.books.copies_of.Given as goal

abbrev pub invariant-loop-book : goal.invariant-loop-book
invariant-loop-book l = l.copies.items ≡ take l.book-index l.books
