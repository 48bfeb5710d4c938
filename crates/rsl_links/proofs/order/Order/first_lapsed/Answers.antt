use Rattle.std.proofs.Common.{◌≡◌, ◌<◌, length, ap, sym, ◌∙◌, arith, rules}
use Rattle.std.specs.Vec.{vec_len}
use Rattle.std.specs.VecDeque.{deque_len}
use Rattle.rsl_session.specs.BookLinks.{lapses_at}
use Rattle.rsl_links.specs.declared.link.Link.{Link}
use Rattle.rsl_links.specs.Order.{link_at}
use Rattle.rsl_links.specs.Seen.{link_seen}
use Rattle.rsl_links.specs.Slots.{links_of, opened_of}
use Rattle.rsl_links.proofs.Ranking.{ranked_found, ranked_link, ranked_stands, listed_within, long_ranked, searchable}
use Rattle.rsl_links.proofs.Slotted.{long_links, long_opened}
use Rattle.rsl_links.proofs.Standing.{none_lapses, some_there}
use Rattle.rsl_links.proofs.order.Order.first_lapsed.Goals as goal

pub index-requires : goal.index-requires
index-requires c =
    let slots = c.args.slots.now in
    let order = c.args.self.now.slots.items in
    let long : deque_len c.args.self.now.slots ≡ length order = search rules in
    let one = some_there (deque_len c.args.self.now.slots) c.is_empty.result c.is_empty.ensures c.if-is_empty.false in
    let many : vec_len slots.slots ≡ length slots.slots.items = search rules in
    let inside = listed_within c.args.kind slots.slots.items order (searchable c.args.kind slots.slots.items (opened_of slots) c.requires.kept.sequenced.rising (length (links_of slots)) order c.requires.order)
    0 c.index-first.result.now (omega (arith, long, one)) c.index-first.ensures in
    omega (arith, many, inside)

pub position-requires-clause-stands : goal.position-requires-clause-stands
position-requires-clause-stands c =
    let slots = c.args.slots.now in
    let long : deque_len c.args.self.now.slots ≡ length c.args.self.now.slots.items = search rules in
    let one = some_there (deque_len c.args.self.now.slots) c.is_empty.result c.is_empty.ensures c.if-is_empty.false in
    ranked_stands c.args.kind slots.slots.items (opened_of slots) c.requires.kept.sequenced.rising (length (links_of slots)) c.args.self.now.slots.items c.requires.order 0 c.index-first.result.now (omega (arith, long, one)) c.index-first.ensures

pub returns-then-lapses-clause-within : goal.returns-then-lapses-clause-within
returns-then-lapses-clause-within c =
    let long = long_links c.args.slots.now c.requires.kept in
    let low = c.position.ensures.within in
    omega (arith, long, low)

pub returns-then-lapses-clause-found : goal.returns-then-lapses-clause-found
returns-then-lapses-clause-found c =
    let slots = c.args.slots.now in
    let order = c.args.self.now.slots.items in
    let long : deque_len c.args.self.now.slots ≡ length order = search rules in
    let one = some_there (deque_len c.args.self.now.slots) c.is_empty.result c.is_empty.ensures c.if-is_empty.false in
    let some : 0 < length order = omega (arith, long, one) in
    let few = long_opened slots.slots.items slots.sequence.items slots.count c.requires.kept.sequenced in
    let low = c.position.ensures.within in
    let here = ranked_found c.args.kind slots.slots.items (opened_of slots) c.requires.kept.sequenced.rising (length (links_of slots)) order c.requires.order 0 c.index-first.result.now c.position.result some c.index-first.ensures
    (omega (arith, few, low)) c.position.ensures.stands in
    let link = ranked_link c.args.kind slots.slots.items (opened_of slots) c.requires.kept.sequenced.rising (length (links_of slots)) order c.requires.order 0 c.index-first.result.now c.index.result.now some c.index-first.ensures c.index.ensures in
    ap (λ (one : Link). lapses_at c.args.rules.now c.args.now (link_seen c.args.servers.now one)) (ap (link_at (links_of slots)) here ∙ sym link) ∙ sym c.lapses.ensures ∙ c.if-lapses.true

pub returns-else-lapses-clause-missed : goal.returns-else-lapses-clause-missed
returns-else-lapses-clause-missed c =
    let slots = c.args.slots.now in
    let order = c.args.self.now.slots.items in
    let long : deque_len c.args.self.now.slots ≡ length order = search rules in
    let one = some_there (deque_len c.args.self.now.slots) c.is_empty.result c.is_empty.ensures c.if-is_empty.false in
    let some : 0 < length order = omega (arith, long, one) in
    let same = long_ranked c.args.kind (links_of slots) (opened_of slots) (length (links_of slots)) order c.requires.order in
    let link = ranked_link c.args.kind slots.slots.items (opened_of slots) c.requires.kept.sequenced.rising (length (links_of slots)) order c.requires.order 0 c.index-first.result.now c.index.result.now some c.index-first.ensures c.index.ensures in
    none_lapses c.args.servers.now c.args.rules.now c.args.now c.args.kind c.requires.touch (links_of slots) c.requires.order.positions c.requires.order.in_order (omega (arith, some, same))
    (ap (λ (one : Link). lapses_at c.args.rules.now c.args.now (link_seen c.args.servers.now one)) (sym link) ∙ sym c.lapses.ensures ∙ c.if-lapses.false)
