use Rattle.std.proofs.Common.{◌≡◌, ℕ, ◌-◌, ◌<◌, ◌≤◌, ◌∷◌, get_or, length, true, false}
use Rattle.rsl_links.specs.Ranked.{slot_key}
use Rattle.rsl_links.specs.Order.{is_before}
use Rattle.rsl_links.proofs.order.Order.count_before.Given as goal

abbrev pub invariant-loop-low : goal.invariant-loop-low
invariant-loop-low l =
    record {
      within : l.low ≤ l.high;
      inside : l.high ≤ length l.self.slots.items;
      before : (k : ℕ) → k < l.low → is_before (slot_key l.kind l.slots.slots.items (get_or l.self.slots.items k 0)) (l.number ∷ l.octets, l.opened) ≡ true;
      after : (k : ℕ) → l.high ≤ k → k < length l.self.slots.items → is_before (slot_key l.kind l.slots.slots.items (get_or l.self.slots.items k 0)) (l.number ∷ l.octets, l.opened) ≡ false;
    }

abbrev pub decreases-loop-low : goal.decreases-loop-low
decreases-loop-low l = l.high - l.low
