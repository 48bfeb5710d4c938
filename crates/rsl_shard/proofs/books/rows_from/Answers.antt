use Rattle.std.proofs.Common.{◌≡◌, List, ◌∷◌, [], ◌++◌, ◌+◌, drop, arith, ap, ◌∙◌}
use Rattle.rsl_shard.specs.Rows.{row_of, rows_from}
use Rattle.rsl_shard.specs.declared.row.Row.{Row}
use Rattle.rsl_shard.proofs.Rowing.{row_more, rows_done}
use Rattle.rsl_shard.proofs.books.rows_from.Goals as goal

pub loop-book-preserved : goal.loop-book-preserved
loop-book-preserved c =
    let pushed : c.push.new.self.items ≡ c.loop-book.rows.items ++ row_of c.loop-book.account c.book-item.result ∷ [] =
    c.in_ok-push.ensures.items ∙ ap (λ (row : Row). c.loop-book.rows.items ++ row ∷ []) c.of.ensures in
    record {
      near = omega arith;
      rows =
          ap (λ (rows : List Row). rows ++ rows_from (c.loop-book.account + c.args.shards) c.args.shards (drop (c.loop-book.book-index + 1) c.args.books.now)) pushed
          ∙ row_more c.loop-book.account c.args.shards c.loop-book.book-index c.loop-book.rows.items (rows_from c.args.first c.args.shards c.args.books.now)
          c.args.books.now c.book-item.result (omega arith) c.book-item.is c.loop-book.invariant.rows;
    }

pub returns : goal.returns
returns c =
    rows_done c.loop-book.account c.args.shards c.loop-book.book-index c.loop-book.rows.items (rows_from c.args.first c.args.shards c.args.books.now)
    c.args.books.now (omega arith) c.loop-book.invariant.rows
