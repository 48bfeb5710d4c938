use Rattle.std.proofs.Common.{ℕ, ◌+◌, ap, arith}
use Rattle.rld_books.specs.Saved.{rows_in}
use Rattle.rld_books.proofs.Saving.{row_more, rows_done}
use Rattle.rld_books.proofs.server_books.looking.rows_of.Goals as goal

pub loop-book-preserved : goal.loop-book-preserved
loop-book-preserved c = record {
  number = ap (λ (n : ℕ). n + 1) c.loop-book.invariant.number;
  rows = row_more c.loop-book.account c.loop-book.book-index c.loop-book.rows.items c.push.new.self.items (rows_in c.args.books.now) c.args.books.now c.book-item.result c.of.result
      (omega arith) c.book-item.is c.of.ensures c.in_ok-push.ensures.items c.loop-book.invariant.rows;
}

pub returns : goal.returns
returns c = rows_done c.loop-book.account c.loop-book.book-index c.loop-book.rows.items (rows_in c.args.books.now) c.args.books.now (omega arith) c.loop-book.invariant.rows
