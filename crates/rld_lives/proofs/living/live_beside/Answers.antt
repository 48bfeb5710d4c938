use Rattle.std.proofs.Common.{◌⊎◌, ◌∙◌, ℕ, List, refl, inl, inr, sym, subst}
use Rattle.std.specs.Arc.{arc_value}
use Rattle.rld_store.specs.Generations.{HasHistory, IsUnbegun}
use Rattle.rld_lives.specs.Choosing.{IsChosenBy}
use Rattle.rld_lives.proofs.Leaving.{newest_has, older_has}
use Rattle.rld_lives.proofs.living.live_beside.Goals as goal

pub returns-in-Ok-clause-lived : goal.returns-in-Ok-clause-lived
returns-in-Ok-clause-lived g c =
    rw c.begun_beside.ensures.logs (rw c.begun_beside.ensures.told (λ gone told only premise opening history have.
    let older : List ℕ = g.L.Log.seen c.args.older in
    let newest : List ℕ = g.L.Log.seen c.args.newest in
    let told_new = c.in-Ok.ensures.told told in
    let begun : IsUnbegun newest → ⊥ = subst (IsChosenBy newest) c.in-Ok-Newest.field-0-is (c.in-Ok-Newest.ensures.chosen told_new) in
    c.in-Ok.ensures.lived told premise opening history
    (subst (HasHistory (arc_value c.args.config.now) opening history) (sym (c.choose.ensures.same told_new)) (newest_has (arc_value c.args.config.now) opening history older newest begun have))))

pub returns-in-Err-live_in-clause-lived : goal.returns-in-Err-live_in-clause-lived
returns-in-Err-live_in-clause-lived g c =
    rw c.not_begun.ensures.told (λ gone told only premise opening history have.
    let older : List ℕ = g.L.Log.seen c.args.older in
    let newest : List ℕ = g.L.Log.seen c.args.newest in
    let told_left = (c.not_begun.ensures.tells told).1 in
    let told_new = c.in-Err-live_in.ensures.refused told_left in
    let same = c.choose.ensures.same told_new in
    let begun : IsUnbegun newest → ⊥ = subst (IsChosenBy newest) c.in-Ok-Newest.field-0-is (c.in-Ok-Newest.ensures.chosen told_new) in
    let has = subst (HasHistory (arc_value c.args.config.now) opening history) (sym same) (newest_has (arc_value c.args.config.now) opening history older newest begun have) in
    record {
      left = history;
      life = refl;
      have = c.not_begun.ensures.have told (arc_value c.args.config.now) opening history (λ old new reached_old reached_new.
          inl (c.in-Err-live_in.ensures.kept told_left (λ e l r. only.1 e l (c.choose.ensures.crash told_new e l r) ∙ sym same) opening history has c.args.plan.ending premise new reached_new));
    })

pub returns-in-Ok-live_in-clause-lived : goal.returns-in-Ok-live_in-clause-lived
returns-in-Ok-live_in-clause-lived g c =
    rw c.begun_beside-in-Ok-live_in.ensures.logs (rw c.begun_beside-in-Ok-live_in.ensures.told (rw c.begun_beside-in-Ok-live_in.ensures.gone (λ gone told only premise opening history have.
    let older : List ℕ = g.L.Log.seen c.args.older in
    let newest : List ℕ = g.L.Log.seen c.args.newest in
    let none : IsUnbegun newest = subst (IsChosenBy newest) c.in-Ok-Older.field-0-is (c.in-Ok-Older.ensures.chosen gone) in
    c.in-Ok-live_in.ensures.lived told premise opening history (older_has (arc_value c.args.config.now) opening history older newest none have))))

pub returns-in-Err-live_in-2-clause-lived : goal.returns-in-Err-live_in-2-clause-lived
returns-in-Err-live_in-2-clause-lived g c =
    rw c.not_begun-in-Err-live_in-2.ensures.told (λ gone told only premise opening history have.
    let older : List ℕ = g.L.Log.seen c.args.older in
    let newest : List ℕ = g.L.Log.seen c.args.newest in
    let both = c.not_begun-in-Err-live_in-2.ensures.tells told in
    let none : IsUnbegun newest = subst (IsChosenBy newest) c.in-Ok-Older.field-0-is (c.in-Ok-Older.ensures.chosen both.1) in
    record {
      left = history;
      life = refl;
      have = c.not_begun-in-Err-live_in-2.ensures.have told (arc_value c.args.config.now) opening history (λ old new reached_old reached_new.
          inr (
            subst IsUnbegun (sym (only.1 c.args.plan.ending new (c.choose.ensures.crash both.1 c.args.plan.ending new reached_new))) none,
            c.in-Err-live_in-2.ensures.kept both.0 only.0 opening history (older_has (arc_value c.args.config.now) opening history older newest none have) c.args.plan.ending premise old reached_old,
          ));
    })

pub returns-in-Err-clause-lived : goal.returns-in-Err-clause-lived
returns-in-Err-clause-lived g c =
    rw c.not_begun-in-Err.ensures.told (λ gone told only premise opening history have.
    let both = c.not_begun-in-Err.ensures.tells told in
    record {
      left = history;
      life = refl;
      have = c.not_begun-in-Err.ensures.have told (arc_value c.args.config.now) opening history (λ old new reached_old reached_new.
          subst (λ (file : List ℕ). HasHistory (arc_value c.args.config.now) opening history new ⊎ (IsUnbegun new × HasHistory (arc_value c.args.config.now) opening history file)) (sym (only.0 c.args.plan.ending old reached_old))
          (subst (λ (file : List ℕ). HasHistory (arc_value c.args.config.now) opening history file ⊎ (IsUnbegun file × HasHistory (arc_value c.args.config.now) opening history (g.L.Log.seen c.args.older)))
          (sym (only.1 c.args.plan.ending new (c.choose.ensures.crash both.1 c.args.plan.ending new reached_new))) have));
    })
