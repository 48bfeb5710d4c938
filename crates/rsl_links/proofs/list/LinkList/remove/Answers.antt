use Rattle.std.proofs.Common.{length, ap, ◌∙◌, add-one, arith}
use Rattle.std.specs.List.{remove}
use Rattle.std.specs.Prelude.{vec_capacity}
use Rattle.rsl_links.specs.LinkList.{RoomyList}
use Rattle.rsl_links.proofs.Ordered.{orders_closed, roomy_for}
use Rattle.rsl_links.proofs.Slotted.{long_links}
use Rattle.rsl_links.proofs.list.LinkList.remove.Goals as goal

pub withdraw-requires-clause-within : goal.withdraw-requires-clause-within
withdraw-requires-clause-within c =
    let few = ap (λ (value : RoomyList). length value.items) c.self.view_is in
    let long = long_links c.self.inside.slots c.self.invariant.kept in
    omega (arith, few, long, c.requires)

pub invariant_of-self : goal.invariant_of-self
invariant_of-self c =
    let slots = c.self.inside.slots in
    let few = ap (λ (value : RoomyList). length value.items) c.self.view_is in
    let long = long_links slots c.self.invariant.kept in
    record {
      kept = c.remove.ensures.kept;
      orders = orders_closed c.args.at slots c.remove.new.self c.withdraw.new.self c.self.invariant.kept (omega (arith, few, long, c.requires)) c.remove.ensures c.withdraw.ensures.orders;
      room = let one = c.remove.ensures.room in roomy_for (vec_capacity slots.slots) _ c.withdraw.new.self (omega (arith, one)) (c.withdraw.ensures.room (vec_capacity slots.slots) c.self.invariant.room);
    }

pub returns-clause-items : goal.returns-clause-items
returns-clause-items c = rw add-one (c.remove.ensures.links ∙ ap (λ (value : RoomyList). remove value.items c.args.at) c.self.view_is)

pub returns-clause-room : goal.returns-clause-room
returns-clause-room c = c.remove.ensures.room ∙ ap (λ (value : RoomyList). value.room) c.self.view_is
