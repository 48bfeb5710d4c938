use Rattle.std.proofs.Common.{◌≡◌, ◌+◌, ◌*◌, ◌≤◌, ◌++◌, drop}
use Rattle.rsl_shard.specs.Rows.{rows_from}
use Rattle.rsl_shard.proofs.books.rows_from.Given as goal

abbrev pub invariant-loop-book : goal.invariant-loop-book
invariant-loop-book l =
    record {
      near : l.account ≤ 4 + 4 * l.book-index;
      rows : l.rows.items ++ rows_from l.account l.shards (drop l.book-index l.books) ≡ rows_from l.first l.shards l.books;
    }
