use Rattle.std.proofs.Common.{◌≡◌, ◌++◌}
use Rattle.rld_text.specs.Metrics.{bucket_lines}
use Rattle.rld_text.proofs.times.push_buckets.Given as goal

-- all buckets before this one are written
abbrev pub invariant-loop-bucket : goal.invariant-loop-bucket
invariant-loop-bucket l = l.out.items ≡ l.fn.out.items ++ bucket_lines l.port l.times l.bucket
