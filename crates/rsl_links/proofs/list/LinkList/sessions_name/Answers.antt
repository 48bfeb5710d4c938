use Rattle.std.proofs.Common.{◌≡◌, ◌<◌, ◌∷◌, [], length, ap, sym, ◌∙◌, arith, rules}
use Rattle.std.specs.Prelude.{◌==◌}
use Rattle.std.specs.List.{list_any}
use Rattle.std.specs.Vec.{vec_len}
use Rattle.std.specs.VecDeque.{deque_len}
use Rattle.rsl_links.specs.declared.link.Link.{Link}
use Rattle.rsl_links.specs.declared.order.OrderKind.TheVariants.{Sessions}
use Rattle.rsl_links.specs.LinkList.{RoomyList, is_bound_at}
use Rattle.rsl_links.specs.Slots.{links_of, opened_of}
use Rattle.rsl_links.proofs.Ranking.{ranked_link, listed_within, long_ranked, searchable, split_first}
use Rattle.rsl_links.proofs.Sought.{names_is, names_none}
use Rattle.rsl_links.proofs.list.LinkList.sessions_name.Goals as goal

pub count_before-rank-requires : goal.count_before-rank-requires
count_before-rank-requires c =
    let slots = c.self.inside.slots in
    let order = c.self.inside.orders.sessions in
    searchable Sessions slots.slots.items (opened_of slots) c.self.invariant.kept.sequenced.rising (length (links_of slots)) order.slots.items c.self.invariant.orders.sessions

pub returns-then-rank-len : goal.returns-then-rank-len
returns-then-rank-len c =
    let slots = c.self.inside.slots in
    let order = c.self.inside.orders.sessions in
    let ranked = c.self.invariant.orders.sessions in
    let long : deque_len order.slots ≡ length order.slots.items = search rules in
    let last = c.if-rank-len.true in
    let same = long_ranked Sessions (links_of slots) (opened_of slots) (length (links_of slots)) order.slots.items ranked in
    sym (names_none (links_of slots) ranked.positions ranked.in_order c.args.nas c.count_before-rank.result
    (split_first Sessions slots.slots.items (opened_of slots) c.self.invariant.kept.sequenced.rising (length (links_of slots)) order.slots.items ranked (c.args.nas ∷ []) c.count_before-rank.result c.count_before-rank.ensures)
    (λ within. absurd (omega (arith, within, last, long, same))))
    ∙ ap (λ (value : RoomyList). list_any (is_bound_at c.args.nas) value.items) c.self.view_is

pub index-requires-2 : goal.index-requires-2
index-requires-2 c =
    let slots = c.self.inside.slots in
    let order = c.self.inside.orders.sessions in
    let long : deque_len order.slots ≡ length order.slots.items = search rules in
    let all : vec_len slots.slots ≡ length slots.slots.items = search rules in
    let most = c.count_before-rank.ensures.within in
    let other = c.if-rank-len.false in
    let low = listed_within Sessions slots.slots.items order.slots.items
    (searchable Sessions slots.slots.items (opened_of slots) c.self.invariant.kept.sequenced.rising (length (links_of slots)) order.slots.items c.self.invariant.orders.sessions)
    c.count_before-rank.result c.index.result.now (omega (arith, most, other, long)) c.index.ensures in
    omega (arith, all, low)

pub returns : goal.returns
returns c =
    let slots = c.self.inside.slots in
    let order = c.self.inside.orders.sessions in
    let ranked = c.self.invariant.orders.sessions in
    let rising = c.self.invariant.kept.sequenced.rising in
    let long : deque_len order.slots ≡ length order.slots.items = search rules in
    let most = c.count_before-rank.ensures.within in
    let other = c.if-rank-len.false in
    let within : c.count_before-rank.result < length order.slots.items = omega (arith, most, other, long) in
    let same = long_ranked Sessions (links_of slots) (opened_of slots) (length (links_of slots)) order.slots.items ranked in
    ap (λ (one : Link). one.nas == c.args.nas) (ranked_link Sessions slots.slots.items (opened_of slots) rising (length (links_of slots)) order.slots.items ranked
    c.count_before-rank.result c.index.result.now c.index-2.result.now within c.index.ensures c.index-2.ensures)
    ∙ names_is (links_of slots) ranked.positions ranked.in_order c.args.nas c.count_before-rank.result
    (split_first Sessions slots.slots.items (opened_of slots) rising (length (links_of slots)) order.slots.items ranked (c.args.nas ∷ []) c.count_before-rank.result c.count_before-rank.ensures)
    (omega (arith, within, same))
    ∙ ap (λ (value : RoomyList). list_any (is_bound_at c.args.nas) value.items) c.self.view_is
