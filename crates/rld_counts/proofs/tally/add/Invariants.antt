use Rattle.std.proofs.Common.{◌≡◌, ◌+◌, ◌<◌, ◌≤◌, ℕ, length, get_or}
use Rattle.rld_counts.specs.Tally.{kept}
use Rattle.rld_counts.proofs.tally.add.Given as goal

-- the counters below this number have been added to, and the others are as they were
abbrev pub invariant-loop-number : goal.invariant-loop-number
invariant-loop-number l =
    (length l.counters ≡ length l.fn.counters)
    × ((k : ℕ) → k < l.number → get_or l.counters k 0 ≡ kept (get_or l.fn.counters k 0 + get_or l.others k 0))
    × ((k : ℕ) → l.number ≤ k → get_or l.counters k 0 ≡ get_or l.fn.counters k 0)
