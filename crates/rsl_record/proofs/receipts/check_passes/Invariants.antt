use Rattle.std.proofs.Common.{◌≡◌, ◌++◌, All, map, take}
use Rattle.std.specs.List.{flat_map}
use Rattle.std.specs.List.Sorted.{IsStrictlyIncreasing}
use Rattle.rsl_record.specs.Faults.{IsAmong}
use Rattle.rsl_record.specs.Receipts.{positions_of}
use Rattle.rsl_record.proofs.receipts.check_passes.Given as goal

abbrev pub invariant-loop-pass : goal.invariant-loop-pass
invariant-loop-pass g l =
    record {
      lines : All (All (IsAmong (map (λ line. line.now) l.lines) l.shard)) (map g.P.HasReceipts.receipts (take l.pass-index l.passes));
      rising : All (λ pass. IsStrictlyIncreasing (positions_of l.shard pass)) (map g.P.HasReceipts.receipts (take l.pass-index l.passes));
      positions : l.positions.items ≡ l.initial.positions.items ++ flat_map (positions_of l.shard) (map g.P.HasReceipts.receipts (take l.pass-index l.passes));
    }
