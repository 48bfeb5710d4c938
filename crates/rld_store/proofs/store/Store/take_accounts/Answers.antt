use Rattle.std.specs.Arc.{arc_value}
use Rattle.rld_store.proofs.SameTable.{still_stands}
use Rattle.rld_store.proofs.store.Store.take_accounts.Goals as goal

pub returns-clause-stands : goal.returns-clause-stands
returns-clause-stands g c = λ opening history unanswered stands.
    still_stands (arc_value c.args.self.now.config) (arc_value c.args.config) c.requires
    opening g.L.Log.tears c.args.self.now.end (g.L.Log.seen c.args.self.now.log) (g.L.Log.may_leave c.args.self.now.log)
    c.args.self.now.whole c.args.self.now.books history unanswered stands
