use Rattle.std.proofs.Common.{ℕ, ◌-◌, ◌<◌, ◌≤◌, get_or}
use Rattle.rsl_links.specs.Slots.{opened_in, opened_of}
use Rattle.rsl_links.proofs.slots.Slots.count_before.Given as goal

abbrev pub invariant-loop-low : goal.invariant-loop-low
invariant-loop-low l =
    record {
      within : l.low ≤ l.high;
      inside : l.high ≤ l.self.count;
      before : (k : ℕ) → k < l.low → opened_in l.self.slots.items (get_or (opened_of l.self) k 0) < l.opened;
      after : (k : ℕ) → l.high ≤ k → k < l.self.count → l.opened ≤ opened_in l.self.slots.items (get_or (opened_of l.self) k 0);
    }

abbrev pub decreases-loop-low : goal.decreases-loop-low
decreases-loop-low l = l.high - l.low
