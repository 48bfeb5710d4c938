use Rattle.std.proofs.Common.{◌≡◌, ◌+◌, ◌*◌, All, map, take}
use Rattle.rsl_book.specs.RuledBook.{IsWithinLimit}
use Rattle.rsl_shard.specs.Opening.{as_new}
use Rattle.rsl_shard.specs.Restep.{new_books}
use Rattle.rsl_shard.proofs.books.given.are_of_shard.Given as goal

abbrev pub invariant-loop-book : goal.invariant-loop-book
invariant-loop-book l =
    record {
      at : l.account ≡ l.shard + l.book-index * l.config.settings.shards;
      so_far : take l.book-index (map as_new l.books) ≡ take l.book-index (new_books l.config l.shard);
      limit : All IsWithinLimit (take l.book-index l.books);
    }
