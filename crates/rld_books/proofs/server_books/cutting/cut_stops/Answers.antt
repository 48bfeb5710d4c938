use Rattle.rld_books.proofs.Cutting.{one_stop}
use Rattle.rld_books.proofs.server_books.cutting.cut_stops.Goals as goal

pub loop-stop-preserved : goal.loop-stop-preserved
loop-stop-preserved c =
    one_stop c.args.now c.args.stops.now c.loop-stop.stops c.loop-stop.stop-index c.stop-item.result c.earlier-stop.result c.loop-stop-test.true c.loop-stop.invariant c.stop-item.is c.earlier-stop.ensures
