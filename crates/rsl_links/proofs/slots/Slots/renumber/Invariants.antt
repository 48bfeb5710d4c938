use Rattle.std.proofs.Common.{◌≡◌, ℕ, ◌<◌, get_or, length}
use Rattle.std.specs.Prelude.{vec_capacity}
use Rattle.rsl_links.specs.Slots.{link_in, opened_in}
use Rattle.rsl_links.proofs.slots.Slots.renumber.Given as goal

abbrev pub invariant-loop-at : goal.invariant-loop-at
invariant-loop-at l =
    record {
      sequence : l.self.sequence ≡ l.initial.self.sequence;
      count : l.self.count ≡ l.initial.self.count;
      long : length l.self.slots.items ≡ length l.initial.self.slots.items;
      links : (x : ℕ) → link_in l.self.slots.items x ≡ link_in l.initial.self.slots.items x;
      numbers : (k : ℕ) → k < l.at → opened_in l.self.slots.items (get_or l.initial.self.sequence.items k 0) ≡ k;
      room : vec_capacity l.self.slots ≡ vec_capacity l.initial.self.slots;
    }
