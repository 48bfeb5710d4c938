use Rattle.std.proofs.Common.{length, not, ap, sym, ◌∙◌, arith}
use Rattle.rsl_links.specs.declared.order.OrderKind.TheVariants.{Bundles}
use Rattle.rsl_links.specs.Changed.{joined_link}
use Rattle.rsl_links.specs.First.{change_at}
use Rattle.rsl_links.specs.LinkList.{RoomyList}
use Rattle.rsl_links.specs.Slots.{links_of}
use Rattle.std.proofs.lemmas.List.{get_or_default}
use Rattle.rsl_links.specs.Order.{no_link}
use Rattle.rsl_links.proofs.Found.{joined_none, joined_same}
use Rattle.rsl_links.proofs.Ranking.{ranked_changed}
use Rattle.rsl_links.proofs.Ordered.{joined_reserved, joined_bound, joined_sessions, joined_stations}
use Rattle.rsl_links.proofs.Slotted.{long_links}
use Rattle.rsl_links.proofs.list.LinkList.join.Goals.{else-is_some-via-then-is_some+else-is_none, else-is_some-via-else-is_some}
use Rattle.rsl_links.proofs.list.LinkList.join.Goals as goal

pub link-requires-clause-within : goal.link-requires-clause-within
link-requires-clause-within c =
    let few = ap (λ (value : RoomyList). length value.items) c.self.view_is in
    let long = long_links c.self.inside.slots c.self.invariant.kept in
    omega (arith, few, long, c.requires)

pub enter-requires-clause-order : goal.enter-requires-clause-order
enter-requires-clause-order c =
    ranked_changed Bundles (joined_link c.args.bundle) c.args.at c.self.inside.slots c.join.new.self c.withdraw.new.self.slots.items c.join.ensures c.withdraw.ensures.order

pub invariant_of-self : goal.invariant_of-self
invariant_of-self c =
    let inside = c.self.inside in
    let few = ap (λ (value : RoomyList). length value.items) c.self.view_is in
    let capacity = c.join.ensures.room in
    record {
      kept = c.join.ensures.kept;
      orders = record {
        reserved = joined_reserved c.args.bundle c.args.at inside.slots c.join.new.self inside.orders.reserved (omega (arith, few, c.requires)) c.join.ensures c.self.invariant.orders.reserved;
        bound = joined_bound c.args.bundle c.args.at inside.slots c.join.new.self inside.orders.bound (omega (arith, few, c.requires)) c.join.ensures c.self.invariant.orders.bound;
        sessions = joined_sessions c.args.bundle c.args.at inside.slots c.join.new.self inside.orders.sessions (omega (arith, few, c.requires)) c.join.ensures c.self.invariant.orders.sessions;
        bundles = c.enter.ensures.order;
        stations = joined_stations c.args.bundle c.args.at inside.slots c.join.new.self inside.orders.stations (omega (arith, few, c.requires)) c.join.ensures c.self.invariant.orders.stations;
      };
      room = record {
        reserved = let room = c.self.invariant.room.reserved in omega (arith, room, capacity);
        bound = let room = c.self.invariant.room.bound in omega (arith, room, capacity);
        sessions = let room = c.self.invariant.room.sessions in omega (arith, room, capacity);
        bundles = let one = c.withdraw.ensures.room in let two = c.enter.ensures.room in let room = c.self.invariant.room.bundles in omega (arith, one, two, room, capacity);
        stations = let room = c.self.invariant.room.stations in omega (arith, room, capacity);
      };
    }

pub returns-then-is_none-clause-items : goal.returns-then-is_none-clause-items
returns-then-is_none-clause-items c = c.join.ensures.links ∙ ap (λ (value : RoomyList). change_at c.args.at (joined_link c.args.bundle) value.items) c.self.view_is

pub returns-then-is_none-clause-room : goal.returns-then-is_none-clause-room
returns-then-is_none-clause-room c = c.join.ensures.room ∙ ap (λ (value : RoomyList). value.room) c.self.view_is

pub returns-else-is_some-clause-items : goal.returns-else-is_some-clause-items
returns-else-is_some-clause-items c =
    let few = ap (λ (value : RoomyList). length value.items) c.self.view_is in
    let links = links_of c.self.inside.slots in
    rw (← c.self.view_is)
    (elim c.else-is_some.branch [
      | else-is_some-via-then-is_some+else-is_none w ↦ joined_same c.args.bundle links c.args.at w.link.result.now (omega (arith, few, c.requires))
          (w.link.ensures ∙ get_or_default links c.args.at no_link w.link.result.now (omega (arith, few, c.requires))) (w.is_none.ensures ∙ ap not w.if-is_none.false)
      | else-is_some-via-else-is_some w ↦ joined_none c.args.bundle links c.args.at (sym c.is_some.ensures ∙ w.if-is_some.false)
    ])
