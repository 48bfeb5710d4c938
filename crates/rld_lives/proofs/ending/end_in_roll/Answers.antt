use Rattle.std.proofs.Common.{ℕ, List, append-nil, inl, [], IsTrue, subst, ⊎_elim}
use Rattle.std.specs.Arc.{arc_value}
use Rattle.rsl_shard.specs.declared.moved.Move.{Move}
use Rattle.rld_store.proofs.Callers.{crashes_lose}
use Rattle.rld_store.specs.Generations.{HasHistory}
use Rattle.rld_lives.proofs.ending.end_in_roll.Goals as goal

pub returns-in_default-clause-have : goal.returns-in_default-clause-have
returns-in_default-clause-have g c = λ told premise opening history unanswered so.
    let store = c.args.store in
    let file : List ℕ = g.L.Log.seen c.crashed.result in
    crashes_lose (arc_value c.args.store.config) opening g.L.Log.tears store.end (g.L.Log.seen store.log) (g.L.Log.may_leave store.log) store.whole store.books history unanswered so
    c.args.ending premise file (subst (λ log. g.L.Log.may_leave log c.args.ending file) c.into_log.ensures (c.crashed.ensures.left told))

pub returns-in-Ok-roll-clause-have : goal.returns-in-Ok-roll-clause-have
returns-in-Ok-roll-clause-have g c = λ told premise opening history unanswered so.
    let now = c.roll.new.self in
    let file : List ℕ = g.L.Log.seen c.crashed-in-Ok-roll-2.result in
    let tells = subst (λ log. IsTrue (g.L.Log.tells log)) c.into_log-in-Ok-roll.ensures (c.crashed-in-Ok-roll-2.ensures.told told.1) in
    let stands = c.in-Ok-roll.ensures.stands tells (c.in-Ok.ensures.settled (c.in-Ok-roll.ensures.told tells)) opening history unanswered so in
    inl (inl (⊎_elim (λ has. has) (λ has. subst (λ (h : List Move). HasHistory (arc_value c.args.store.config) opening h file) (append-nil history) has)
    (crashes_lose (arc_value c.args.store.config) opening g.L.Log.tears now.end (g.L.Log.seen now.log) (g.L.Log.may_leave now.log) now.whole now.books history [] stands
    c.args.ending premise file (subst (λ log. g.L.Log.may_leave log c.args.ending file) c.into_log-in-Ok-roll.ensures (c.crashed-in-Ok-roll-2.ensures.left told.1)))))
