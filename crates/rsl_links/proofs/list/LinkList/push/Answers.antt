use Rattle.std.proofs.Common.{[], ◌∷◌, ◌++◌, length, ap, ◌∙◌, arith}
use Rattle.std.specs.Prelude.{vec_capacity}
use Rattle.rsl_links.specs.LinkList.{RoomyList}
use Rattle.rsl_links.proofs.Ordered.{orders_grown, roomy_for}
use Rattle.rsl_links.proofs.Slotted.{long_links}
use Rattle.rsl_links.proofs.list.LinkList.push.Goals as goal

pub push-requires-clause-room : goal.push-requires-clause-room
push-requires-clause-room c =
    let few = ap (λ (value : RoomyList). length value.items) c.self.view_is in
    let free = ap (λ (value : RoomyList). value.room) c.self.view_is in
    let long = long_links c.self.inside.slots c.self.invariant.kept in
    omega (arith, few, free, long, c.requires)

pub enter-requires-clause-within : goal.enter-requires-clause-within
enter-requires-clause-within c = let more = c.push.ensures.count in omega (arith, more)

pub enter-requires-clause-orders : goal.enter-requires-clause-orders
enter-requires-clause-orders c =
    orders_grown c.args.link c.self.inside.slots c.push.new.self c.self.inside.orders c.self.invariant.kept c.push.ensures c.self.invariant.orders

pub enter-requires-clause-room : goal.enter-requires-clause-room
enter-requires-clause-room c =
    let few = ap (λ (value : RoomyList). length value.items) c.self.view_is in
    let free = ap (λ (value : RoomyList). value.room) c.self.view_is in
    let long = long_links c.self.inside.slots c.self.invariant.kept in
    let more = c.push.ensures.count in
    roomy_for (vec_capacity c.self.inside.slots.slots) c.push.new.self.count c.self.inside.orders (omega (arith, few, free, long, more, c.requires)) c.self.invariant.room

pub invariant_of-self : goal.invariant_of-self
invariant_of-self c =
    record {
      kept = c.push.ensures.kept;
      orders = c.enter.ensures.orders;
      room = let one = c.push.ensures.room in roomy_for (vec_capacity c.self.inside.slots.slots) _ c.enter.new.self (omega (arith, one)) (c.enter.ensures.room (vec_capacity c.self.inside.slots.slots) c.self.invariant.room);
    }

pub returns-clause-items : goal.returns-clause-items
returns-clause-items c = c.push.ensures.links ∙ ap (λ (value : RoomyList). value.items ++ c.args.link ∷ []) c.self.view_is

pub returns-clause-room : goal.returns-clause-room
returns-clause-room c = c.push.ensures.room ∙ ap (λ (value : RoomyList). value.room) c.self.view_is
