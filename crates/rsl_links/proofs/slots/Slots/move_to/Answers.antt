use Rattle.rsl_links.specs.Changed.{stationed_link}
use Rattle.rsl_links.proofs.Slotted.{changed}
use Rattle.rsl_links.proofs.slots.Slots.move_to.Goals as goal

pub returns : goal.returns
returns c =
    changed c.args.self.now c.requires.kept (stationed_link c.args.station) c.args.at c.slot-slot.result c.requires.within c.slot-slot.ensures.slot
    c.index_mut.result.now c.move_to.new.self c.index_mut.ensures.value c.move_to.ensures
