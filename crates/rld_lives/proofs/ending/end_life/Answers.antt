use Rattle.std.proofs.Common.{ℕ, List, subst}
use Rattle.std.specs.Arc.{arc_value}
use Rattle.rld_store.proofs.Callers.{crashes_lose}
use Rattle.rld_lives.proofs.ending.end_life.Goals as goal

pub returns-in-None-clause-have : goal.returns-in-None-clause-have
returns-in-None-clause-have g c = λ told premise opening history unanswered so.
    let store = c.args.store in
    let file : List ℕ = g.L.Log.seen c.crashed.result in
    crashes_lose (arc_value c.args.store.config) opening g.L.Log.tears store.end (g.L.Log.seen store.log) (g.L.Log.may_leave store.log) store.whole store.books history unanswered so
    c.args.ending premise file (subst (λ log. g.L.Log.may_leave log c.args.ending file) c.into_log.ensures (c.crashed.ensures.left told))
