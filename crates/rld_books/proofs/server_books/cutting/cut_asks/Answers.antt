use Rattle.rld_books.proofs.Cutting.{one_ask}
use Rattle.rld_books.proofs.server_books.cutting.cut_asks.Goals as goal

pub loop-ask-preserved : goal.loop-ask-preserved
loop-ask-preserved c =
    one_ask c.args.now c.args.asks.now c.loop-ask.asks c.loop-ask.ask-index c.ask-item.result c.earlier-ask.result c.loop-ask-test.true c.loop-ask.invariant c.ask-item.is c.earlier-ask.ensures
