use Rattle.std.proofs.Common.{◌≡◌, ◌∙◌, ◌⊎◌, [], ap, inl, sym, subst}
use Rattle.std.proofs.lemmas.Result.{IfErr-weaker, IfOk-weaker}
use Rattle.std.specs.Arc.{arc_value}
use Rattle.rld_books.specs.Saved.{IsServerOf}
use Rattle.rld_books.proofs.Callers.{new_is_of}
use Rattle.rld_books.specs.Server.{ServerSeen, new_server}
use Rattle.rld_store.specs.Beginning.{IsBegun}
use Rattle.rld_store.specs.Generations.{HasHistory, IsUnbegun}
use Rattle.rld_store.specs.Standing.{StandsFor}
use Rattle.rld_store.proofs.Fronts.{nothing_begun}
use Rattle.rld_store.proofs.store.Store.begin.Goals as goal

pub returns-in-Ok-clause-begun : goal.returns-in-Ok-clause-begun
returns-in-Ok-clause-begun g c =
    IfOk-weaker c.begin_with.result _ _
    (λ store begun told only. subst (λ (b : ServerSeen). IsBegun (arc_value c.args.config) c.args.header b (g.L.Log.seen store.log) (g.L.Log.may_leave store.log) store.whole)
    (c.in-Ok.ensures ∙ ap new_server c.deref.ensures) (begun told only)) c.begin_with.ensures.begun

pub returns-in-Ok-clause-stands : goal.returns-in-Ok-clause-stands
returns-in-Ok-clause-stands g c =
    let is : c.in-Ok.books ≡ new_server (arc_value c.args.config) = c.in-Ok.ensures ∙ ap new_server c.deref.ensures in
    let of : IsServerOf (arc_value c.args.config) c.in-Ok.books = subst (λ (b : ServerSeen). IsServerOf (arc_value c.args.config) b) (sym is) (new_is_of (arc_value c.args.config)) in
    IfOk-weaker c.begin_with.result _ _
    (λ store stands told only. subst (λ (b : ServerSeen). StandsFor (arc_value c.args.config) b g.L.Log.tears store.end (g.L.Log.seen store.log) (g.L.Log.may_leave store.log) store.whole store.books [] []) is
    (stands told only of)) c.begin_with.ensures.stands

pub returns-in-Ok-clause-crash : goal.returns-in-Ok-clause-crash
returns-in-Ok-clause-crash g c =
    let is : c.in-Ok.books ≡ new_server (arc_value c.args.config) = c.in-Ok.ensures ∙ ap new_server c.deref.ensures in
    let of : IsServerOf (arc_value c.args.config) c.in-Ok.books = subst (λ (b : ServerSeen). IsServerOf (arc_value c.args.config) b) (sym is) (new_is_of (arc_value c.args.config)) in
    IfErr-weaker c.begin_with.result _ _
    (λ refused crash told only empty ending premise left reached. subst (λ (b : ServerSeen). IsUnbegun left ⊎ HasHistory (arc_value c.args.config) b [] left) is
    (crash told only empty of ending premise left reached)) c.begin_with.ensures.crash

pub returns-in-Err-clause-crash : goal.returns-in-Err-clause-crash
returns-in-Err-clause-crash g c = λ told only empty ending premise left reached. inl (nothing_begun left (only ending left reached ∙ empty))
