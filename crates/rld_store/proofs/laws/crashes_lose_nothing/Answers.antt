use Rattle.std.specs.Arc.{arc_value}
use Rattle.rld_store.proofs.Standing.{crashes_lose}
use Rattle.rld_store.proofs.laws.crashes_lose_nothing.Goals as goal

pub returns : goal.returns
returns g c = λ opening history unanswered so.
    crashes_lose (arc_value c.args.store.now.config) opening g.L.Log.tears c.args.store.now.end (g.L.Log.seen c.args.store.now.log) (g.L.Log.may_leave c.args.store.now.log) c.args.store.now.whole c.args.store.now.books history unanswered so
