use Rattle.std.proofs.Common.{◌∷◌, [], length, ap, ◌∙◌}
use Rattle.std.specs.Prelude.{count_by}
use Rattle.rsl_links.specs.declared.order.OrderKind.TheVariants.{Bound}
use Rattle.rsl_links.specs.LinkList.{RoomyList, is_bound_until}
use Rattle.rsl_links.specs.Slots.{links_of, opened_of}
use Rattle.rsl_links.proofs.Ranking.{searchable, split_last}
use Rattle.rsl_links.proofs.Sought.{counted_until}
use Rattle.rsl_links.proofs.list.LinkList.bound_until.Goals as goal

pub count_before-requires : goal.count_before-requires
count_before-requires c =
    let slots = c.self.inside.slots in
    let order = c.self.inside.orders.bound in
    searchable Bound slots.slots.items (opened_of slots) c.self.invariant.kept.sequenced.rising (length (links_of slots)) order.slots.items c.self.invariant.orders.bound

pub returns : goal.returns
returns c =
    let slots = c.self.inside.slots in
    let order = c.self.inside.orders.bound in
    let ranked = c.self.invariant.orders.bound in
    counted_until c.args.clock (links_of slots) ranked.positions c.count_before.result ranked.in_order
    (split_last Bound slots.slots.items (opened_of slots) c.self.invariant.kept.sequenced.rising (length (links_of slots)) order.slots.items ranked (c.args.clock ∷ []) c.count_before.result c.count_before.ensures)
    ∙ ap (λ (value : RoomyList). count_by (is_bound_until c.args.clock) value.items) c.self.view_is
