use Rattle.rld_books.proofs.Cutting.{one_book}
use Rattle.rld_books.proofs.server_books.cutting.cut_each.Goals as goal

pub loop-index-preserved : goal.loop-index-preserved
loop-index-preserved c =
    one_book c.args.now c.args.kept.now c.loop-index.kept c.loop-index.index c.index-kept-index.result c.cut_book.new.kept c.loop-index-test.true
    c.loop-index.invariant c.index-kept-index.is c.cut_book.ensures
