use Rattle.std.proofs.Common.{◌≡◌, map, sum, take}
use Rattle.rld_counts.specs.Counts.{count_in}
use Rattle.rld_counts.specs.Fates.{at, causes_at}
use Rattle.rld_counts.specs.Tally.{kept}
use Rattle.rld_counts.proofs.counts.Counts.total_at.Given as goal

-- of the causes that were looked at
abbrev pub invariant-loop-cause : goal.invariant-loop-cause
invariant-loop-cause l = l.sum ≡ kept (sum (map (λ cause. count_in l.self (at l.gate cause)) (take l.cause-index (causes_at l.gate))))
