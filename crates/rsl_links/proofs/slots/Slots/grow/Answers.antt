use Rattle.std.proofs.Common.{◌≡◌, length, refl, rules}
use Rattle.rsl_links.proofs.Grown.{grown}
use Rattle.rsl_links.proofs.slots.Slots.grow.Goals as goal

pub returns-clause-same : goal.returns-clause-same
returns-clause-same c =
    let long : c.len-slot.result ≡ length c.args.self.now.slots.items = search rules in
    grown c.args.self.now _ c.requires.kept c.len-slot.result long c.free.result c.push_reserved.ensures.items c.push_back_reserved.ensures.items
    refl c.push_reserved.ensures.capacity c.push_back_reserved.ensures.capacity c.requires.room
