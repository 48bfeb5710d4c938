use Rattle.std.proofs.Common.{List, ℕ, ap, arith}
use Rattle.rsl_links.specs.Slots.{links_in}
use Rattle.rsl_links.proofs.Ordered.{no_orders, roomy_for}
use Rattle.rsl_links.proofs.list.LinkList.new.Goals as goal

pub invariant_of-result : goal.invariant_of-result
invariant_of-result c =
    let slots = c.in_ok-new.ensures in
    record {
      kept = slots.kept;
      orders = no_orders c.in_ok-new.field-0 c.in_ok-new-2.field-0 (ap (λ (opened : List ℕ). links_in c.in_ok-new.field-0.slots.items opened) slots.none) c.in_ok-new-2.ensures.empty;
      room = roomy_for c.args.room _ c.in_ok-new-2.field-0 (let one = slots.room in omega (arith, one)) c.in_ok-new-2.ensures.room;
    }
