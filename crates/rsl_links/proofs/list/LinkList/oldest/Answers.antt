use Rattle.std.proofs.Common.{◌≡◌, ℕ, ◌<◌, get_or, length, sym, subst, arith, rules}
use Rattle.std.specs.VecDeque.{deque_len}
use Rattle.rsl_links.specs.declared.order.OrderKind.TheVariants.{Bound}
use Rattle.rsl_links.specs.LinkList.{IsOldest, RoomyList}
use Rattle.rsl_links.specs.Order.{is_of}
use Rattle.rsl_links.specs.Slots.{links_of, opened_of}
use Rattle.rsl_links.proofs.Ranking.{ranked_found, ranked_stands, long_ranked}
use Rattle.rsl_links.proofs.Slotted.{long_opened}
use Rattle.rsl_links.proofs.Standing.{oldest_first, some_there}
use Rattle.rsl_links.proofs.list.LinkList.oldest.Goals as goal

pub position-requires-clause-stands : goal.position-requires-clause-stands
position-requires-clause-stands c =
    let slots = c.self.inside.slots in
    let order = c.self.inside.orders.bound in
    let bound = order.slots in
    let long : deque_len bound ≡ length bound.items = search rules in
    let one = some_there (deque_len bound) c.is_empty.result c.is_empty.ensures c.if-is_empty.false in
    ranked_stands Bound slots.slots.items (opened_of slots) c.self.invariant.kept.sequenced.rising (length (links_of slots)) bound.items c.self.invariant.orders.bound 0 c.index.result.now (omega (arith, long, one)) c.index.ensures

pub returns-clause-found : goal.returns-clause-found
returns-clause-found c =
    let slots = c.self.inside.slots in
    let order = c.self.inside.orders.bound in
    let bound = order.slots in
    let ranked = c.self.invariant.orders.bound in
    let long : deque_len bound ≡ length bound.items = search rules in
    let one = some_there (deque_len bound) c.is_empty.result c.is_empty.ensures c.if-is_empty.false in
    let some : 0 < length bound.items = omega (arith, long, one) in
    let same = long_ranked Bound (links_of slots) (opened_of slots) (length (links_of slots)) bound.items ranked in
    let few = long_opened slots.slots.items slots.sequence.items slots.count c.self.invariant.kept.sequenced in
    let low = c.position.ensures.within in
    subst (λ (at : ℕ). IsOldest (is_of Bound) c.args.self.now.items at)
    (sym (ranked_found Bound slots.slots.items (opened_of slots) c.self.invariant.kept.sequenced.rising (length (links_of slots)) bound.items ranked 0 c.index.result.now c.position.result some c.index.ensures (omega (arith, few, low)) c.position.ensures.stands))
    (subst (λ (value : RoomyList). IsOldest (is_of Bound) value.items (get_or ranked.positions 0 0)) c.self.view_is
    (oldest_first (links_of slots) ranked.positions ranked.in_order (omega (arith, some, same))))
