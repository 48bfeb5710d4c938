use Rattle.std.proofs.Common.{◌∷◌, length}
use Rattle.rsl_links.specs.declared.order.OrderKind.TheVariants.{Bundles}
use Rattle.rsl_links.specs.Slots.{links_of, opened_of}
use Rattle.rsl_links.proofs.Ranking.{searchable, split_first, split_last}
use Rattle.rsl_links.proofs.Sought.{in_turn, members_between}
use Rattle.rsl_links.proofs.order.Order.members.Goals as goal

pub count_before-first-requires : goal.count_before-first-requires
count_before-first-requires c =
    let slots = c.args.slots.now in
    let order = c.args.self.now in
    searchable Bundles slots.slots.items (opened_of slots) c.requires.kept.sequenced.rising (length (links_of slots)) order.slots.items c.requires.order

pub count_before-end-requires : goal.count_before-end-requires
count_before-end-requires c =
    let slots = c.args.slots.now in
    let order = c.args.self.now in
    searchable Bundles slots.slots.items (opened_of slots) c.requires.kept.sequenced.rising (length (links_of slots)) order.slots.items c.requires.order

pub overflow_sub-result : goal.overflow_sub-result
overflow_sub-result c =
    let slots = c.args.slots.now in
    let order = c.args.self.now in
    let ranked = c.requires.order in
    let rising = c.requires.kept.sequenced.rising in
    in_turn Bundles (links_of slots) ranked.positions ranked.in_order (c.args.nas ∷ c.args.id.now) c.count_before-first.result c.count_before-end.result
    (split_first Bundles slots.slots.items (opened_of slots) rising (length (links_of slots)) order.slots.items ranked (c.args.nas ∷ c.args.id.now) c.count_before-first.result c.count_before-first.ensures)
    (split_last Bundles slots.slots.items (opened_of slots) rising (length (links_of slots)) order.slots.items ranked (c.args.nas ∷ c.args.id.now) c.count_before-end.result c.count_before-end.ensures)

pub returns : goal.returns
returns c =
    let slots = c.args.slots.now in
    let order = c.args.self.now in
    let ranked = c.requires.order in
    let rising = c.requires.kept.sequenced.rising in
    members_between (links_of slots) ranked.positions ranked.in_order c.args.nas c.args.id.now c.count_before-first.result c.count_before-end.result
    (split_first Bundles slots.slots.items (opened_of slots) rising (length (links_of slots)) order.slots.items ranked (c.args.nas ∷ c.args.id.now) c.count_before-first.result c.count_before-first.ensures)
    (split_last Bundles slots.slots.items (opened_of slots) rising (length (links_of slots)) order.slots.items ranked (c.args.nas ∷ c.args.id.now) c.count_before-end.result c.count_before-end.ensures)
