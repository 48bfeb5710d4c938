use Rattle.std.proofs.Common.{ℕ, ◌^◌, ◌<◌}
use Rattle.rld_counts.proofs.histogram.bucket_of.Given as goal

-- the bounds of the buckets before this one are below the time
abbrev pub invariant-loop-bucket : goal.invariant-loop-bucket
invariant-loop-bucket l = (k : ℕ) → k < l.bucket → 2 ^ k < l.micros
