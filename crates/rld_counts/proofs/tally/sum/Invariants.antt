use Rattle.std.proofs.Common.{◌≡◌, sum, take}
use Rattle.rld_counts.specs.Tally.{kept}
use Rattle.rld_counts.proofs.tally.sum.Given as goal

-- the sum of the counters that were looked at
abbrev pub invariant-loop-counter : goal.invariant-loop-counter
invariant-loop-counter l = l.sum ≡ kept (sum (take l.counter-index l.counters))
