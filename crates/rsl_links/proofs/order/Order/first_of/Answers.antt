use Rattle.std.proofs.Common.{◌≡◌, ◌<◌, ◌∷◌, length, ap, sym, ◌∙◌, subst, arith, rules}
use Rattle.std.specs.Vec.{vec_len}
use Rattle.std.specs.VecDeque.{deque_len}
use Rattle.rsl_links.specs.First.{IsFirst}
use Rattle.rsl_links.specs.Order.{goes_by}
use Rattle.rsl_links.specs.Slots.{links_of, opened_of}
use Rattle.rsl_links.proofs.Ranking.{ranked_found, ranked_link, ranked_stands, listed_within, long_ranked, searchable, split_first}
use Rattle.rsl_links.proofs.Slotted.{long_opened}
use Rattle.rsl_links.proofs.Sought.{first_sought, none_sought}
use Rattle.rsl_links.proofs.order.Order.first_of.Goals as goal

pub count_before-rank-requires : goal.count_before-rank-requires
count_before-rank-requires c =
    let slots = c.args.slots.now in
    searchable c.args.kind slots.slots.items (opened_of slots) c.requires.kept.sequenced.rising (length (links_of slots)) c.args.self.now.slots.items c.requires.order

pub index-requires : goal.index-requires
index-requires c =
    let slots = c.args.slots.now in
    let order = c.args.self.now.slots.items in
    let long : deque_len c.args.self.now.slots ≡ length order = search rules in
    let all : vec_len slots.slots ≡ length slots.slots.items = search rules in
    let most = c.count_before-rank.ensures.within in
    let other = c.if-rank-len.false in
    let low = listed_within c.args.kind slots.slots.items order
    (searchable c.args.kind slots.slots.items (opened_of slots) c.requires.kept.sequenced.rising (length (links_of slots)) order c.requires.order)
    c.count_before-rank.result c.index-slot.result.now (omega (arith, most, other, long)) c.index-slot.ensures in
    omega (arith, all, low)

pub position-requires-clause-stands : goal.position-requires-clause-stands
position-requires-clause-stands c =
    let slots = c.args.slots.now in
    let order = c.args.self.now.slots.items in
    let long : deque_len c.args.self.now.slots ≡ length order = search rules in
    let most = c.count_before-rank.ensures.within in
    let other = c.if-rank-len.false in
    ranked_stands c.args.kind slots.slots.items (opened_of slots) c.requires.kept.sequenced.rising (length (links_of slots)) order c.requires.order
    c.count_before-rank.result c.index-slot.result.now (omega (arith, most, other, long)) c.index-slot.ensures

pub returns-then-rank-len-clause-missed : goal.returns-then-rank-len-clause-missed
returns-then-rank-len-clause-missed c =
    let slots = c.args.slots.now in
    let order = c.args.self.now.slots.items in
    let long : deque_len c.args.self.now.slots ≡ length order = search rules in
    let last = c.if-rank-len.true in
    let same = long_ranked c.args.kind (links_of slots) (opened_of slots) (length (links_of slots)) order c.requires.order in
    none_sought c.args.kind (links_of slots) c.requires.order.positions c.requires.order.in_order c.args.number c.args.octets.now c.count_before-rank.result
    (split_first c.args.kind slots.slots.items (opened_of slots) c.requires.kept.sequenced.rising (length (links_of slots)) order c.requires.order
    (c.args.number ∷ c.args.octets.now) c.count_before-rank.result c.count_before-rank.ensures)
    (λ within. absurd (omega (arith, within, last, long, same)))

pub returns-then-goes_by-clause-found : goal.returns-then-goes_by-clause-found
returns-then-goes_by-clause-found c =
    let slots = c.args.slots.now in
    let order = c.args.self.now.slots.items in
    let rising = c.requires.kept.sequenced.rising in
    let long : deque_len c.args.self.now.slots ≡ length order = search rules in
    let most = c.count_before-rank.ensures.within in
    let other = c.if-rank-len.false in
    let within : c.count_before-rank.result < length order = omega (arith, most, other, long) in
    let same = long_ranked c.args.kind (links_of slots) (opened_of slots) (length (links_of slots)) order c.requires.order in
    let few = long_opened slots.slots.items slots.sequence.items slots.count c.requires.kept.sequenced in
    let low = c.position.ensures.within in
    let link = ranked_link c.args.kind slots.slots.items (opened_of slots) rising (length (links_of slots)) order c.requires.order
    c.count_before-rank.result c.index-slot.result.now c.index.result.now within c.index-slot.ensures c.index.ensures in
    subst (λ n. IsFirst (goes_by c.args.kind c.args.number c.args.octets.now) (links_of slots) n)
    (sym (ranked_found c.args.kind slots.slots.items (opened_of slots) rising (length (links_of slots)) order c.requires.order c.count_before-rank.result c.index-slot.result.now c.position.result within c.index-slot.ensures
    (omega (arith, few, low)) c.position.ensures.stands))
    (first_sought c.args.kind (links_of slots) c.requires.order.positions c.requires.order.in_order c.args.number c.args.octets.now c.count_before-rank.result
    (split_first c.args.kind slots.slots.items (opened_of slots) rising (length (links_of slots)) order c.requires.order
    (c.args.number ∷ c.args.octets.now) c.count_before-rank.result c.count_before-rank.ensures)
    (omega (arith, within, same))
    (ap (goes_by c.args.kind c.args.number c.args.octets.now) (sym link) ∙ sym c.goes_by.ensures ∙ c.if-goes_by.true))

pub returns-else-goes_by-clause-missed : goal.returns-else-goes_by-clause-missed
returns-else-goes_by-clause-missed c =
    let slots = c.args.slots.now in
    let order = c.args.self.now.slots.items in
    let rising = c.requires.kept.sequenced.rising in
    let same = long_ranked c.args.kind (links_of slots) (opened_of slots) (length (links_of slots)) order c.requires.order in
    none_sought c.args.kind (links_of slots) c.requires.order.positions c.requires.order.in_order c.args.number c.args.octets.now c.count_before-rank.result
    (split_first c.args.kind slots.slots.items (opened_of slots) rising (length (links_of slots)) order c.requires.order
    (c.args.number ∷ c.args.octets.now) c.count_before-rank.result c.count_before-rank.ensures)
    (λ inside.
    let link = ranked_link c.args.kind slots.slots.items (opened_of slots) rising (length (links_of slots)) order c.requires.order
    c.count_before-rank.result c.index-slot.result.now c.index.result.now (omega (arith, inside, same)) c.index-slot.ensures c.index.ensures in
    ap (goes_by c.args.kind c.args.number c.args.octets.now) (sym link) ∙ sym c.goes_by.ensures ∙ c.if-goes_by.false)
