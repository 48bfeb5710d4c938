use Rattle.rsl_links.specs.Changed.{joined_link}
use Rattle.rsl_links.proofs.Slotted.{changed}
use Rattle.rsl_links.proofs.slots.Slots.join.Goals as goal

pub returns : goal.returns
returns c =
    changed c.args.self.now c.requires.kept (joined_link c.args.bundle) c.args.at c.slot-slot.result c.requires.within c.slot-slot.ensures.slot
    c.index_mut.result.now c.join.new.self c.index_mut.ensures.value c.join.ensures
