use Rattle.std.proofs.Common.{ℕ, ◌<◌}
use Rattle.rsl_record.specs.Records.{segments_of}
use Rattle.rsl_record.specs.Segments.{HasJoined}
use Rattle.rsl_record.proofs.segments.check_segments.Given as goal

abbrev pub invariant-loop-shard : goal.invariant-loop-shard
invariant-loop-shard l = (lower : ℕ) → lower < l.shard → HasJoined l.config (segments_of l.journals) lower
