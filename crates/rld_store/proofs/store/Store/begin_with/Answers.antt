use Rattle.std.proofs.Common.{◌≡◌, ◌⊎◌, List, ℕ, [], sym, subst}
use Rattle.std.specs.Arc.{arc_value}
use Rattle.rsl_accounts.specs.Configuration.{Configuration}
use Rattle.rld_store.specs.Beginning.{IsBegun}
use Rattle.rld_store.specs.Generations.{HasGeneration, IsUnbegun}
use Rattle.rld_store.proofs.Batches.{replay_none}
use Rattle.rld_store.proofs.Fronts.{begun_of, begun_stands}
use Rattle.rld_store.proofs.store.Store.begin_with.Goals as goal

pub returns-in-Ok-clause-stands : goal.returns-in-Ok-clause-stands
returns-in-Ok-clause-stands g c = λ told only of.
    let same : c.deref.result.now ≡ arc_value c.args.config = c.deref.ensures in
    begun_stands (arc_value c.args.config) c.args.books g.L.Log.tears c.args.header (g.L.Log.seen c.begin_log.new.log) (g.L.Log.may_leave c.begin_log.new.log) c.in-Ok.whole c.args.books []
    of (subst (λ (x : Configuration). IsBegun x c.args.header c.args.books (g.L.Log.seen c.begin_log.new.log) (g.L.Log.may_leave c.begin_log.new.log) c.in-Ok.whole) same
    (c.in-Ok.ensures.begun told only)) (sym (replay_none c.args.books))

pub returns-in-Err-clause-crash : goal.returns-in-Err-clause-crash
returns-in-Err-clause-crash g c = λ told only empty of ending premise left reached.
    let same : c.deref.result.now ≡ arc_value c.args.config = c.deref.ensures in
    begun_of (arc_value c.args.config) c.args.books c.args.header c.args.books [] left of (sym (replay_none c.args.books))
    (subst (λ (x : Configuration). IsUnbegun left ⊎ HasGeneration x c.args.header c.args.books [] left) same (c.in-Err.ensures.crash told only empty ending premise left reached))
