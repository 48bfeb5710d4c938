use Rattle.std.proofs.Common.{refl}
use Rattle.rsl_links.specs.Changed.{renewed_link}
use Rattle.rsl_links.proofs.Slotted.{changed}
use Rattle.rsl_links.proofs.slots.Slots.renew.Goals as goal

pub returns : goal.returns
unfolding renewed_link
returns c =
    let before = c.index_mut.result.now in
    let link = before.link in
    changed c.args.self.now c.requires.kept (renewed_link c.args.now) c.args.at c.slot-slot.result c.requires.within c.slot-slot.ensures.slot
    before (record link { touched = c.args.now }) c.index_mut.ensures.value refl
