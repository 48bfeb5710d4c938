use Rattle.std.proofs.Common.{sym, ◌∙◌}
use Rattle.rsl_links.proofs.Yielding.{lapse_step, lapse_end, one_less}
use Rattle.rsl_links.proofs.links.Links.lapse.Goals as goal

pub loop-at-preserved : goal.loop-at-preserved
loop-at-preserved c =
    let gone = c.end_at.ensures in
    one_less c.loop-at.invariant
    (lapse_step c.args.servers.now c.args.rules.now c.args.now c.loop-at.self.list.items c.end_at.new.self.list.items c.in-Some.at c.in-Some.ensures.within c.in-Some.ensures.found gone.links)
    gone.counted gone.fewer gone.ports gone.room

pub returns-clause-links : goal.returns-clause-links
returns-clause-links c =
    let so_far = c.loop-at.invariant in
    sym (lapse_end c.args.servers.now c.args.rules.now c.args.now c.loop-at.self.list.items c.in_default.ensures.missed) ∙ so_far.left
