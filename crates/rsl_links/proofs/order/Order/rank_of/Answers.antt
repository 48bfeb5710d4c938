use Rattle.std.proofs.Common.{ℕ, length, subst, arith}
use Rattle.rsl_links.specs.Ranked.{slot_key}
use Rattle.rsl_links.specs.Order.{IsSplit}
use Rattle.rsl_links.specs.Slots.{links_of, opened_of}
use Rattle.rsl_links.proofs.Ranking.{searchable, there}
use Rattle.rsl_links.proofs.Slotted.{long_opened}
use Rattle.rsl_links.proofs.order.Order.rank_of.Goals as goal

pub count_before_link-requires-clause-order : goal.count_before_link-requires-clause-order
count_before_link-requires-clause-order c =
    let slots = c.args.slots.now in
    searchable c.args.kind slots.slots.items (opened_of slots) c.requires.kept.sequenced.rising (length (links_of slots)) c.args.self.now.slots.items c.requires.order

pub returns-clause-within : goal.returns-clause-within
returns-clause-within c =
    let slots = c.args.slots.now in
    let most = long_opened slots.slots.items slots.sequence.items slots.count c.requires.kept.sequenced in
    (there c.args.kind slots.slots.items (opened_of slots) c.requires.kept.sequenced.rising c.args.self.now.slots.items c.args.at (omega (arith, most, c.requires.within)) c.requires.order c.requires.kind c.count_before_link.result
    (subst (λ (n : ℕ). IsSplit (slot_key c.args.kind slots.slots.items) c.args.self.now.slots.items (slot_key c.args.kind slots.slots.items n) c.count_before_link.result) c.slot-slot.ensures.slot c.count_before_link.ensures)).0

pub returns-clause-stands : goal.returns-clause-stands
returns-clause-stands c =
    let slots = c.args.slots.now in
    let most = long_opened slots.slots.items slots.sequence.items slots.count c.requires.kept.sequenced in
    (there c.args.kind slots.slots.items (opened_of slots) c.requires.kept.sequenced.rising c.args.self.now.slots.items c.args.at (omega (arith, most, c.requires.within)) c.requires.order c.requires.kind c.count_before_link.result
    (subst (λ (n : ℕ). IsSplit (slot_key c.args.kind slots.slots.items) c.args.self.now.slots.items (slot_key c.args.kind slots.slots.items n) c.count_before_link.result) c.slot-slot.ensures.slot c.count_before_link.ensures)).1
