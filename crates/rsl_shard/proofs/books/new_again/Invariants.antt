use Rattle.std.proofs.Common.{◌≡◌, map, take}
use Rattle.rsl_shard.specs.Opening.{as_new}
use Rattle.rsl_shard.proofs.books.new_again.Given as goal

abbrev pub invariant-loop-book : goal.invariant-loop-book
invariant-loop-book l = l.made.items ≡ map as_new (take l.book-index l.books)
