use Rattle.std.proofs.Common.{arith}
use Rattle.rld_books.proofs.Cutting.{late_more}
use Rattle.rld_books.proofs.server_books.cutting.late_in_all.Goals as goal

pub loop-book-preserved : goal.loop-book-preserved
loop-book-preserved c = λ few.
    let more = late_more c.args.now c.args.kept.now c.loop-book.book-index c.book-item.result c.loop-book-test.true c.book-item.is in
    omega (arith, more, few, c.loop-book.invariant, c.late_in_book.ensures, c.saturating_add-count.ensures)
