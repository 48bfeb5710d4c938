use Rattle.std.proofs.Common.{◌≡◌, length, ap, ◌∙◌, rules}
use Rattle.std.specs.Prelude.{count_by}
use Rattle.rsl_links.specs.declared.order.OrderKind.TheVariants.{Reserved}
use Rattle.rsl_links.specs.LinkList.{RoomyList}
use Rattle.rsl_links.specs.Order.{is_of}
use Rattle.rsl_links.specs.Slots.{links_of, opened_of}
use Rattle.rsl_links.proofs.Ranking.{long_ranked}
use Rattle.rsl_links.proofs.Sought.{counted_all}
use Rattle.rsl_links.proofs.list.LinkList.reserved.Goals as goal

pub returns : goal.returns
returns c =
    let slots = c.self.inside.slots in
    let order = c.self.inside.orders.reserved in
    let ranked = c.self.invariant.orders.reserved in
    let long : c.len.result ≡ length order.slots.items = search rules in
    long ∙ long_ranked Reserved (links_of slots) (opened_of slots) (length (links_of slots)) order.slots.items ranked
    ∙ counted_all Reserved (links_of slots) ranked.positions ranked.in_order
    ∙ ap (λ (value : RoomyList). count_by (is_of Reserved) value.items) c.self.view_is
