use Rattle.std.proofs.Common.{rules, ◌≡◌, ◌∙◌, [], ap, List, IsTrue, Some, sym, subst, append-nil, ⊎_elim}
use Rattle.std.specs.Arc.{arc_value}
use Rattle.std.specs.Prelude.{IfErr, IfOk, Result, Ok, Err}
use Rattle.rsl_shard.specs.declared.moved.Move.{Move}
use Rattle.rld_store.specs.Generations.{HasHistory}
use Rattle.rld_store.specs.Standing.{StandsFor}
use Rattle.rld_store.proofs.Callers.{crashes_lose}
use Rattle.rsl_accounts.specs.Configuration.{Configuration}
use Rattle.rld_lives.specs.Leaving.{HasLived, batches_of}
use Rattle.rld_lives.proofs.living.live_in.Goals as goal

if_ok : {X E : Type 0} (P Q : X → Type 0) (result : Result X E) → IfOk result P → ((value : X) → P value → Q value) → IfOk result Q
if_ok P Q (Ok value) some by = by value some
if_ok P Q (Err fault) some by = tt

if_err : {X E : Type 0} (P Q : E → Type 0) (result : Result X E) → IfErr result P → ((fault : E) → P fault → Q fault) → IfErr result Q
if_err P Q (Ok value) some by = tt
if_err P Q (Err fault) some by = by fault some

if_both : {X E : Type 0} (P Q R : X → Type 0) (result : Result X E) → IfOk result P → IfOk result Q → ((value : X) → P value → Q value → R value) → IfOk result R
if_both P Q R (Ok value) some also by = by value some also
if_both P Q R (Err fault) some also by = tt

pub returns-in-Ok-open-clause-lived : goal.returns-in-Ok-open-clause-lived
returns-in-Ok-open-clause-lived g c =
    if_both _ _ _ c.live_on.result c.live_on.ensures.told c.live_on.ensures.lived
    (λ begun tells lived told premise opening history has.
    let store = c.in-Ok-open.opened.store in
    let own : Configuration = arc_value c.in-Ok-try_clone.config in
    let same : own ≡ arc_value c.args.config.now = search rules in
    let is : arc_value store.config ≡ own = ap arc_value c.in-Ok-open.ensures.config in
    let told_open = tells told in
    let told_read = c.in-Ok-open.ensures.told told_open in
    let had : HasHistory own opening history (g.L.Log.seen c.args.log) = subst (λ (x : Configuration). HasHistory x opening history (g.L.Log.seen c.args.log)) (sym same) has in
    let so = c.in-Ok-open.ensures.stands told_open opening history (subst (HasHistory own opening history) (sym (c.read_frames.ensures.same told_read)) had) in
    subst (λ (x : Configuration). HasLived x opening history (batches_of c.args.plan.steps.items) (Some begun.told.items) g.L.Log.seen begun.logs.older begun.logs.newest) (is ∙ same)
    (lived told premise opening history
    (subst (λ (x : Configuration). StandsFor x opening g.L.Log.tears store.end (g.L.Log.seen store.log) (g.L.Log.may_leave store.log) store.whole store.books history []) (sym is) so)))

pub returns-in-Ok-open-clause-kept : goal.returns-in-Ok-open-clause-kept
returns-in-Ok-open-clause-kept g c =
    if_err _ _ c.live_on.result c.live_on.ensures.same
    (λ left same told only opening history has ending premise file reached.
    let store = c.in-Ok-open.opened.store in
    let own : Configuration = arc_value c.in-Ok-try_clone.config in
    let one : own ≡ arc_value c.args.config.now = search rules in
    let told_open = subst (λ log. IsTrue (g.L.Log.tells log)) same told in
    let told_read = c.in-Ok-open.ensures.told told_open in
    let had : HasHistory own opening history (g.L.Log.seen c.args.log) = subst (λ (x : Configuration). HasHistory x opening history (g.L.Log.seen c.args.log)) (sym one) has in
    let so = c.in-Ok-open.ensures.stands told_open opening history (subst (HasHistory own opening history) (sym (c.read_frames.ensures.same told_read)) had) in
    subst (λ (x : Configuration). HasHistory x opening history file) one
    (⊎_elim (λ has. has) (λ has. subst (λ (h : List Move). HasHistory own opening h file) (append-nil history) has)
    (crashes_lose own opening g.L.Log.tears store.end (g.L.Log.seen store.log) (g.L.Log.may_leave store.log) store.whole store.books history [] so
    ending premise file (subst (λ log. g.L.Log.may_leave log ending file) same reached))))
