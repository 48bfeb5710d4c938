use Rattle.std.proofs.Common.{inl, inr, sym, subst}
use Rattle.std.specs.Arc.{arc_value}
use Rattle.std.specs.Prelude.{IsTrue, Result, Ok, Err, OnErr, OnOk}
use Rattle.rld_store.specs.Standing.{StandsFor}
use Rattle.rld_lives.proofs.living.roll_on.Goals as goal

either : {X Y P Q R : Type 0} (result : Result X Y) → OnOk result P → OnErr result Q → (P → R) → (Q → R) → R
either (Ok value) ok err on_ok on_err = on_ok ok
either (Err fault) ok err on_ok on_err = on_err err

pub returns-clause-told : goal.returns-clause-told
returns-clause-told g c = λ told.
    either c.roll-older.result (c.roll-older.ensures.told told) c.roll-older.ensures.err
    (λ tells. subst (λ log. IsTrue (g.L.Log.tells log)) c.log.ensures (c.in-Ok.ensures.told tells))
    (λ same. subst (λ store. IsTrue (g.L.Log.tells store.log)) same told)

pub returns-clause-stands : goal.returns-clause-stands
returns-clause-stands g c = λ told opening history unanswered so.
    either c.roll-older.result (c.roll-older.ensures.told told) c.roll-older.ensures.err
    (λ tells. either c.roll-older.result (c.roll-older.ensures.stands told (c.in-Ok.ensures.settled tells) opening history unanswered so) c.roll-older.ensures.err inr
    (λ same. inl (subst (λ store. StandsFor (arc_value c.args.store.now.config) opening g.L.Log.tears store.end (g.L.Log.seen store.log) (g.L.Log.may_leave store.log) store.whole store.books history unanswered) (sym same) so)))
    (λ same. inl (subst (λ store. StandsFor (arc_value c.args.store.now.config) opening g.L.Log.tears store.end (g.L.Log.seen store.log) (g.L.Log.may_leave store.log) store.whole store.books history unanswered) (sym same) so))
