use Rattle.std.proofs.Common.{length, ap, ◌∙◌, arith}
use Rattle.std.proofs.lemmas.List.{get_or_default}
use Rattle.rsl_links.specs.declared.order.OrderKind.TheVariants.{Stations}
use Rattle.rsl_links.specs.Changed.{stationed_link}
use Rattle.rsl_links.specs.First.{change_at}
use Rattle.rsl_links.specs.LinkList.{RoomyList}
use Rattle.rsl_links.specs.Order.{no_link}
use Rattle.rsl_links.specs.Slots.{links_of}
use Rattle.rsl_links.proofs.Found.{change_same}
use Rattle.rsl_links.proofs.Ranking.{ranked_changed}
use Rattle.rsl_links.proofs.Ordered.{moved_reserved, moved_bound, moved_sessions, moved_bundles}
use Rattle.rsl_links.proofs.Slotted.{long_links}
use Rattle.rsl_links.proofs.list.LinkList.move_to.Goals as goal

pub link-requires-clause-within : goal.link-requires-clause-within
link-requires-clause-within c =
    let few = ap (λ (value : RoomyList). length value.items) c.self.view_is in
    let long = long_links c.self.inside.slots c.self.invariant.kept in
    omega (arith, few, long, c.requires)

pub enter-requires-clause-order : goal.enter-requires-clause-order
enter-requires-clause-order c =
    ranked_changed Stations (stationed_link c.args.station) c.args.at c.self.inside.slots c.move_to.new.self c.withdraw.new.self.slots.items c.move_to.ensures c.withdraw.ensures.order

pub invariant_of-self : goal.invariant_of-self
invariant_of-self c =
    let inside = c.self.inside in
    let few = ap (λ (value : RoomyList). length value.items) c.self.view_is in
    let capacity = c.move_to.ensures.room in
    record {
      kept = c.move_to.ensures.kept;
      orders = record {
        reserved = moved_reserved c.args.station c.args.at inside.slots c.move_to.new.self inside.orders.reserved (omega (arith, few, c.requires)) c.move_to.ensures c.self.invariant.orders.reserved;
        bound = moved_bound c.args.station c.args.at inside.slots c.move_to.new.self inside.orders.bound (omega (arith, few, c.requires)) c.move_to.ensures c.self.invariant.orders.bound;
        sessions = moved_sessions c.args.station c.args.at inside.slots c.move_to.new.self inside.orders.sessions (omega (arith, few, c.requires)) c.move_to.ensures c.self.invariant.orders.sessions;
        bundles = moved_bundles c.args.station c.args.at inside.slots c.move_to.new.self inside.orders.bundles (omega (arith, few, c.requires)) c.move_to.ensures c.self.invariant.orders.bundles;
        stations = c.enter.ensures.order;
      };
      room = record {
        reserved = let room = c.self.invariant.room.reserved in omega (arith, room, capacity);
        bound = let room = c.self.invariant.room.bound in omega (arith, room, capacity);
        sessions = let room = c.self.invariant.room.sessions in omega (arith, room, capacity);
        bundles = let room = c.self.invariant.room.bundles in omega (arith, room, capacity);
        stations = let one = c.withdraw.ensures.room in let two = c.enter.ensures.room in let room = c.self.invariant.room.stations in omega (arith, one, two, room, capacity);
      };
    }

pub returns-then-moves_to-clause-items : goal.returns-then-moves_to-clause-items
returns-then-moves_to-clause-items c = c.move_to.ensures.links ∙ ap (λ (value : RoomyList). change_at c.args.at (stationed_link c.args.station) value.items) c.self.view_is

pub returns-then-moves_to-clause-room : goal.returns-then-moves_to-clause-room
returns-then-moves_to-clause-room c = c.move_to.ensures.room ∙ ap (λ (value : RoomyList). value.room) c.self.view_is

pub returns-else-moves_to-clause-items : goal.returns-else-moves_to-clause-items
returns-else-moves_to-clause-items c =
    let few = ap (λ (value : RoomyList). length value.items) c.self.view_is in
    let links = links_of c.self.inside.slots in
    rw (← c.self.view_is)
    (change_same (stationed_link c.args.station) links c.args.at c.link.result.now (omega (arith, few, c.requires))
    (c.link.ensures ∙ get_or_default links c.args.at no_link c.link.result.now (omega (arith, few, c.requires))) (c.moves_to.ensures c.if-moves_to.false))
