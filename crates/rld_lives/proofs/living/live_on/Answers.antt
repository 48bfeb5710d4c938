use Rattle.std.proofs.Common.{◌⊎◌, ◌++◌, List, ap, subst}
use Rattle.std.specs.Arc.{arc_value}
use Rattle.rsl_accounts.specs.Configuration.{Configuration}
use Rattle.rsl_shard.specs.declared.moved.Move.{Move}
use Rattle.rld_store.specs.Standing.{StandsFor}
use Rattle.rld_lives.specs.Leaving.{HaveHistory, batches_of}
use Rattle.rld_lives.proofs.Leaving.{has_lived}
use Rattle.rld_lives.proofs.living.live_on.Goals as goal

pub returns-in-Ok-clause-lived : goal.returns-in-Ok-clause-lived
returns-in-Ok-clause-lived g c = λ told premise opening history so.
    let now = c.live.new.store in
    let after = c.in-Ok.ensures.lived (c.end_life.ensures.told told) opening history so in
    has_lived (arc_value c.args.store.config) opening g.L.Log.tears now.end (g.L.Log.seen now.log) (g.L.Log.may_leave now.log) now.whole now.books history
    (batches_of c.args.plan.steps.items) c.in-Ok.told.items g.L.Log.seen c.end_life.result.older c.end_life.result.newest after
    (subst (λ (x : Configuration). (history unanswered : List Move) → StandsFor x opening g.L.Log.tears now.end (g.L.Log.seen now.log) (g.L.Log.may_leave now.log) now.whole now.books history unanswered
    → HaveHistory x opening history g.L.Log.seen c.end_life.result.older c.end_life.result.newest ⊎ HaveHistory x opening (history ++ unanswered) g.L.Log.seen c.end_life.result.older c.end_life.result.newest) (ap arc_value c.live.ensures.config)
    (c.end_life.ensures.have told premise opening) after.left after.unanswered after.stands)
