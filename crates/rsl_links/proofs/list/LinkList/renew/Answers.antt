use Rattle.std.proofs.Common.{length, ap, ◌∙◌, arith}
use Rattle.rsl_links.specs.declared.order.OrderKind.TheVariants.{Reserved, Bound}
use Rattle.rsl_links.specs.Changed.{renewed_link}
use Rattle.rsl_links.specs.First.{change_at}
use Rattle.rsl_links.specs.LinkList.{RoomyList}
use Rattle.rsl_links.proofs.Ranking.{ranked_changed}
use Rattle.rsl_links.proofs.Ordered.{renewed_sessions, renewed_bundles, renewed_stations}
use Rattle.rsl_links.proofs.Slotted.{long_links}
use Rattle.rsl_links.proofs.list.LinkList.renew.Goals as goal

pub withdraw-requires-clause-within : goal.withdraw-requires-clause-within
withdraw-requires-clause-within c =
    let few = ap (λ (value : RoomyList). length value.items) c.self.view_is in
    let long = long_links c.self.inside.slots c.self.invariant.kept in
    omega (arith, few, long, c.requires)

pub enter-requires-clause-order : goal.enter-requires-clause-order
enter-requires-clause-order c =
    ranked_changed Reserved (renewed_link c.args.now) c.args.at c.self.inside.slots c.renew.new.self c.withdraw.new.self.slots.items c.renew.ensures c.withdraw.ensures.order

pub enter-requires-2-clause-order : goal.enter-requires-2-clause-order
enter-requires-2-clause-order c =
    ranked_changed Bound (renewed_link c.args.now) c.args.at c.self.inside.slots c.renew.new.self c.withdraw-2.new.self.slots.items c.renew.ensures c.withdraw-2.ensures.order

pub invariant_of-self : goal.invariant_of-self
invariant_of-self c =
    let inside = c.self.inside in
    let few = ap (λ (value : RoomyList). length value.items) c.self.view_is in
    let capacity = c.renew.ensures.room in
    record {
      kept = c.renew.ensures.kept;
      orders = record {
        reserved = c.enter.ensures.order;
        bound = c.enter-2.ensures.order;
        sessions = renewed_sessions c.args.now c.args.at inside.slots c.renew.new.self inside.orders.sessions (omega (arith, few, c.requires)) c.renew.ensures c.self.invariant.orders.sessions;
        bundles = renewed_bundles c.args.now c.args.at inside.slots c.renew.new.self inside.orders.bundles (omega (arith, few, c.requires)) c.renew.ensures c.self.invariant.orders.bundles;
        stations = renewed_stations c.args.now c.args.at inside.slots c.renew.new.self inside.orders.stations (omega (arith, few, c.requires)) c.renew.ensures c.self.invariant.orders.stations;
      };
      room = record {
        reserved = let one = c.withdraw.ensures.room in let two = c.enter.ensures.room in let room = c.self.invariant.room.reserved in omega (arith, one, two, room, capacity);
        bound = let one = c.withdraw-2.ensures.room in let two = c.enter-2.ensures.room in let room = c.self.invariant.room.bound in omega (arith, one, two, room, capacity);
        sessions = let room = c.self.invariant.room.sessions in omega (arith, room, capacity);
        bundles = let room = c.self.invariant.room.bundles in omega (arith, room, capacity);
        stations = let room = c.self.invariant.room.stations in omega (arith, room, capacity);
      };
    }

pub returns-clause-items : goal.returns-clause-items
returns-clause-items c = c.renew.ensures.links ∙ ap (λ (value : RoomyList). change_at c.args.at (renewed_link c.args.now) value.items) c.self.view_is

pub returns-clause-room : goal.returns-clause-room
returns-clause-room c = c.renew.ensures.room ∙ ap (λ (value : RoomyList). value.room) c.self.view_is
