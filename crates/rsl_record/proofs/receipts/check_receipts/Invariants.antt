use Rattle.std.proofs.Common.{ℕ, ◌<◌, ◌≤◌, All, map}
use Rattle.std.specs.List.Sorted.{IsStrictlyIncreasing}
use Rattle.rsl_record.specs.Faults.{IsAmong}
use Rattle.rsl_record.specs.Receipts.{positions_of, times}
use Rattle.rsl_record.specs.Records.{segments_of}
use Rattle.rsl_record.specs.Segments.{shard_lines}
use Rattle.rsl_record.proofs.receipts.check_receipts.Given as goal

-- the shards so far are told
abbrev pub invariant-loop-shard : goal.invariant-loop-shard
invariant-loop-shard g l =
    record {
      lines : (lower : ℕ) → lower < l.shard → All (All (IsAmong (shard_lines lower (segments_of l.journals)) lower)) (map g.P.HasReceipts.receipts l.passes);
      rising : (lower : ℕ) → lower < l.shard → All (λ pass. IsStrictlyIncreasing (positions_of lower pass)) (map g.P.HasReceipts.receipts l.passes);
      once : (lower : ℕ) → lower < l.shard → (position : ℕ) → times lower position (map g.P.HasReceipts.receipts l.passes) ≤ 1;
    }
