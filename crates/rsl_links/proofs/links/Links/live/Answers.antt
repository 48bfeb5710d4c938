use Rattle.rsl_links.proofs.Tallied.{fewer_stale}
use Rattle.rsl_links.proofs.links.Links.live.Goals as goal

pub overflow_sub-result : goal.overflow_sub-result
overflow_sub-result c = fewer_stale c.args.rules.now c.args.now c.args.self.now.list.items c.bound.result c.stale.result c.bound.ensures c.stale.ensures
