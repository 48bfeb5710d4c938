use Rattle.std.proofs.Common.{ℕ, length, sym, subst, arith}
use Rattle.rsl_links.specs.declared.order.OrderKind.TheVariants.{Stations}
use Rattle.rsl_links.specs.LinkList.{IsOldest, is_of_station}
use Rattle.rsl_links.specs.Slots.{links_of, opened_of}
use Rattle.rsl_links.proofs.Ranking.{ranked_found, ranked_stands, searchable}
use Rattle.rsl_links.proofs.Slotted.{long_opened}
use Rattle.rsl_links.proofs.Stationed.{none_there, oldest_there, stations_in_turn}
use Rattle.rsl_links.proofs.order.Order.oldest_of.Goals as goal

pub count_before-first-requires : goal.count_before-first-requires
count_before-first-requires c =
    let slots = c.args.slots.now in
    searchable Stations slots.slots.items (opened_of slots) c.requires.kept.sequenced.rising (length (links_of slots)) c.args.self.now.slots.items c.requires.order

pub count_before-end-requires : goal.count_before-end-requires
count_before-end-requires c =
    let slots = c.args.slots.now in
    searchable Stations slots.slots.items (opened_of slots) c.requires.kept.sequenced.rising (length (links_of slots)) c.args.self.now.slots.items c.requires.order

pub returns-then-first-end-clause-missed : goal.returns-then-first-end-clause-missed
returns-then-first-end-clause-missed c =
    let slots = c.args.slots.now in
    none_there slots.slots.items (opened_of slots) c.requires.kept.sequenced.rising c.args.self.now.slots.items c.requires.order c.args.station.now
    c.count_before-first.result c.count_before-end.result c.count_before-first.ensures c.count_before-end.ensures c.if-first-end.true

pub oldest_between-oldest-requires-clause-some : goal.oldest_between-oldest-requires-clause-some
oldest_between-oldest-requires-clause-some c =
    let slots = c.args.slots.now in
    let most = stations_in_turn slots.slots.items (opened_of slots) c.requires.kept.sequenced.rising c.args.self.now.slots.items c.requires.order c.args.station.now
    c.count_before-first.result c.count_before-end.result c.count_before-first.ensures c.count_before-end.ensures in
    let other = c.if-first-end.false in
    omega (arith, most, other)

pub oldest_between-oldest-requires-clause-there : goal.oldest_between-oldest-requires-clause-there
oldest_between-oldest-requires-clause-there c =
    let slots = c.args.slots.now in
    (searchable Stations slots.slots.items (opened_of slots) c.requires.kept.sequenced.rising (length (links_of slots)) c.args.self.now.slots.items c.requires.order).within

pub position-requires-clause-stands : goal.position-requires-clause-stands
position-requires-clause-stands c =
    let slots = c.args.slots.now in
    let low = c.oldest_between-oldest.ensures.low in
    let most = c.count_before-end.ensures.within in
    ranked_stands Stations slots.slots.items (opened_of slots) c.requires.kept.sequenced.rising (length (links_of slots)) c.args.self.now.slots.items c.requires.order
    c.oldest_between-oldest.result c.index.result.now (omega (arith, low, most)) c.index.ensures

pub returns-clause-found : goal.returns-clause-found
returns-clause-found c =
    let slots = c.args.slots.now in
    let rising = c.requires.kept.sequenced.rising in
    let order = c.args.self.now.slots.items in
    let rank = c.oldest_between-oldest.result in
    let few = long_opened slots.slots.items slots.sequence.items slots.count c.requires.kept.sequenced in
    let inside = c.position.ensures.within in
    let low = c.oldest_between-oldest.ensures.low in
    let most = c.count_before-end.ensures.within in
    subst (λ (at : ℕ). IsOldest (is_of_station c.args.station.now) (links_of slots) at)
    (sym (ranked_found Stations slots.slots.items (opened_of slots) rising (length (links_of slots)) order c.requires.order rank c.index.result.now c.position.result
    (omega (arith, low, most)) c.index.ensures (omega (arith, few, inside)) c.position.ensures.stands))
    (oldest_there slots.slots.items (opened_of slots) rising order c.requires.order c.args.station.now c.count_before-first.result c.count_before-end.result c.count_before-first.ensures c.count_before-end.ensures
    rank c.oldest_between-oldest.ensures)
