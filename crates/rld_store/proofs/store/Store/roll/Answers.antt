use Rattle.std.proofs.Common.{◌≡◌, ◌⊎◌, ℕ, List, [], IsTrue, subst, sym}
use Rattle.std.specs.Arc.{arc_value}
use Rattle.rsl_accounts.specs.Configuration.{Configuration}
use Rattle.rld_store.specs.Beginning.{IsBegun}
use Rattle.rld_store.specs.Generations.{HasGeneration, IsUnbegun}
use Rattle.rld_store.proofs.Fronts.{begun_of, begun_stands, both_stand}
use Rattle.rld_store.proofs.Standing.{crashes_lose}
use Rattle.rld_store.proofs.store.Store.roll.Goals as goal

pub returns-in-Ok-clause-begun : goal.returns-in-Ok-clause-begun
returns-in-Ok-clause-begun g c = λ told only.
    let is = c.replace.ensures.after in
    let same : c.deref.result.now ≡ arc_value c.args.self.now.config = c.deref.ensures in
    subst (λ log. IsBegun (arc_value c.args.self.now.config) c.args.header c.args.self.now.books (g.L.Log.seen log) (g.L.Log.may_leave log) c.in-Ok.whole) (sym is)
    (subst (λ (x : Configuration). IsBegun x c.args.header c.args.self.now.books (g.L.Log.seen c.begin_log.new.log) (g.L.Log.may_leave c.begin_log.new.log) c.in-Ok.whole) same
    (c.in-Ok.ensures.begun (subst (λ log. IsTrue (g.L.Log.tells log)) is told) only))

pub returns-in-Ok-clause-stands : goal.returns-in-Ok-clause-stands
returns-in-Ok-clause-stands g c = λ told only opening history unanswered so.
    begun_stands (arc_value c.args.self.now.config) opening g.L.Log.tears c.args.header (g.L.Log.seen c.replace.new.dest) (g.L.Log.may_leave c.replace.new.dest) c.in-Ok.whole c.args.self.now.books history
    so.are.opening_is (returns-in-Ok-clause-begun g c told only) so.replayed

pub returns-in-Err-clause-crash : goal.returns-in-Err-clause-crash
returns-in-Err-clause-crash g c = λ told told_older only empty opening history unanswered so ending premise older newer reached_older reached_newer.
    let config : Configuration = arc_value c.args.self.now.config in
    let same : c.deref.result.now ≡ config = c.deref.ensures in
    both_stand config opening history unanswered older newer
    (crashes_lose config opening g.L.Log.tears c.args.self.now.end (g.L.Log.seen c.args.self.now.log) (g.L.Log.may_leave c.args.self.now.log) c.args.self.now.whole c.args.self.now.books history unanswered so
    ending premise older reached_older)
    (begun_of config opening c.args.header c.args.self.now.books history newer so.are.opening_is so.replayed
    (subst (λ (x : Configuration). IsUnbegun newer ⊎ HasGeneration x c.args.header c.args.self.now.books [] newer) same (c.in-Err.ensures.crash told only empty ending premise newer reached_newer)))
