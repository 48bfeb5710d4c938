use Rattle.rsl_links.specs.LinkList.{is_for}
use Rattle.rsl_links.proofs.Earliest.{IsEarliest}
use Rattle.rsl_links.proofs.order.Order.first_reservation.Given as goal

abbrev pub invariant-loop-rank : goal.invariant-loop-rank
invariant-loop-rank l = IsEarliest (is_for l.nas l.class) l.slots.slots.items l.self.slots.items l.rank l.first l.opened
