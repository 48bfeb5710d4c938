use Rattle.std.proofs.Common.{ℕ, List, ap, sym, ◌∙◌, subst, arith}
use Rattle.std.specs.List.{insert}
use Rattle.rsl_links.specs.declared.link.Link.{Link}
use Rattle.rsl_links.specs.Ranked.{AreRankedOf, slot_key}
use Rattle.rsl_links.specs.Order.{IsSplit, is_of}
use Rattle.rsl_links.specs.Slots.{links_of, opened_of}
use Rattle.rsl_links.proofs.Ranking.{few_ranked, ranked_entered, ranked_not_entered, searchable}
use Rattle.rsl_links.proofs.Slotted.{long_opened}
use Rattle.rsl_links.proofs.order.Order.enter.Goals as goal

pub count_before_link-rank-requires-clause-order : goal.count_before_link-rank-requires-clause-order
count_before_link-rank-requires-clause-order c =
    let slots = c.args.slots.now in
    searchable c.args.kind slots.slots.items (opened_of slots) c.requires.kept.sequenced.rising c.args.at c.args.self.now.slots.items c.requires.order

pub insert_reserved-requires-clause-room : goal.insert_reserved-requires-clause-room
insert_reserved-requires-clause-room c =
    let slots = c.args.slots.now in
    let most = long_opened slots.slots.items slots.sequence.items slots.count c.requires.kept.sequenced in
    let few = few_ranked c.args.kind slots.slots.items (opened_of slots) c.requires.kept.sequenced.rising c.args.self.now.slots.items c.args.at (omega (arith, most, c.requires.within)) c.requires.order in
    omega (arith, few, most, c.requires.room)

pub returns-then-holds-clause-order : goal.returns-then-holds-clause-order
returns-then-holds-clause-order c =
    let slots = c.args.slots.now in
    let most = long_opened slots.slots.items slots.sequence.items slots.count c.requires.kept.sequenced in
    subst (λ (order : List ℕ). AreRankedOf c.args.kind c.args.slots.now order)
    (sym (c.insert_reserved.ensures.items ∙ ap (insert c.args.self.now.slots.items c.count_before_link-rank.result) c.slot-slot.ensures.slot))
    (ranked_entered c.args.kind slots.slots.items (opened_of slots) c.requires.kept.sequenced.rising c.args.self.now.slots.items c.args.at (omega (arith, most, c.requires.within)) c.requires.order
    (sym (ap (λ (one : Link). is_of c.args.kind one) c.link.ensures) ∙ sym c.holds.ensures ∙ c.if-holds.true)
    c.count_before_link-rank.result
    (subst (λ (n : ℕ). IsSplit (slot_key c.args.kind slots.slots.items) c.args.self.now.slots.items (slot_key c.args.kind slots.slots.items n) c.count_before_link-rank.result) c.slot-slot.ensures.slot c.count_before_link-rank.ensures))

pub returns-else-holds-clause-order : goal.returns-else-holds-clause-order
returns-else-holds-clause-order c =
    ranked_not_entered c.args.kind (links_of c.args.slots.now) (opened_of c.args.slots.now) c.args.self.now.slots.items c.args.at c.requires.order
    (sym (ap (λ (one : Link). is_of c.args.kind one) c.link.ensures) ∙ sym c.holds.ensures ∙ c.if-holds.false)
