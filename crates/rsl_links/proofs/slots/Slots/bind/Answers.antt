use Rattle.rsl_links.specs.Changed.{bound_link}
use Rattle.rsl_links.proofs.Slotted.{changed}
use Rattle.rsl_links.proofs.slots.Slots.bind.Goals as goal

pub returns : goal.returns
returns c =
    changed c.args.self.now c.requires.kept (bound_link c.args.now c.args.id) c.args.at c.slot-slot.result c.requires.within c.slot-slot.ensures.slot
    c.index_mut.result.now c.bind.new.self c.index_mut.ensures.value c.bind.ensures
