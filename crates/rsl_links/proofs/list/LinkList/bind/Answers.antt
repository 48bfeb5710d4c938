use Rattle.std.proofs.Common.{length, ap, ◌∙◌, arith}
use Rattle.std.specs.Prelude.{vec_capacity}
use Rattle.rsl_links.specs.Changed.{bound_link}
use Rattle.rsl_links.specs.First.{change_at}
use Rattle.rsl_links.specs.LinkList.{RoomyList}
use Rattle.rsl_links.proofs.Ordered.{orders_changed, roomy_for}
use Rattle.rsl_links.proofs.Slotted.{few_links, long_links}
use Rattle.rsl_links.proofs.list.LinkList.bind.Goals as goal

pub withdraw-requires-clause-within : goal.withdraw-requires-clause-within
withdraw-requires-clause-within c =
    let few = ap (λ (value : RoomyList). length value.items) c.self.view_is in
    let long = long_links c.self.inside.slots c.self.invariant.kept in
    omega (arith, few, long, c.requires)

pub enter-requires-clause-orders : goal.enter-requires-clause-orders
enter-requires-clause-orders c =
    orders_changed (bound_link c.args.now c.args.id) c.args.at c.self.inside.slots c.bind.new.self c.withdraw.new.self c.bind.ensures c.withdraw.ensures.orders

pub enter-requires-clause-room : goal.enter-requires-clause-room
enter-requires-clause-room c =
    let capacity = c.bind.ensures.count in
    let most = few_links c.self.inside.slots c.self.invariant.kept in
    roomy_for (vec_capacity c.self.inside.slots.slots) c.bind.new.self.count c.withdraw.new.self (omega (arith, capacity, most)) (c.withdraw.ensures.room (vec_capacity c.self.inside.slots.slots) c.self.invariant.room)

pub invariant_of-self : goal.invariant_of-self
invariant_of-self c =
    record {
      kept = c.bind.ensures.kept;
      orders = c.enter.ensures.orders;
      room = let one = c.bind.ensures.room in
          roomy_for (vec_capacity c.self.inside.slots.slots) _ c.enter.new.self (omega (arith, one))
          (c.enter.ensures.room (vec_capacity c.self.inside.slots.slots) (c.withdraw.ensures.room (vec_capacity c.self.inside.slots.slots) c.self.invariant.room));
    }

pub returns-clause-items : goal.returns-clause-items
returns-clause-items c = c.bind.ensures.links ∙ ap (λ (value : RoomyList). change_at c.args.at (bound_link c.args.now c.args.id) value.items) c.self.view_is

pub returns-clause-room : goal.returns-clause-room
returns-clause-room c = c.bind.ensures.room ∙ ap (λ (value : RoomyList). value.room) c.self.view_is
