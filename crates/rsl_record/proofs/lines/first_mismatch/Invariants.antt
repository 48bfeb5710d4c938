use Rattle.std.proofs.Common.{All, map, take}
use Rattle.rsl_record.specs.Faults.{IsAmong}
use Rattle.rsl_record.proofs.lines.first_mismatch.Given as goal

abbrev pub invariant-loop-receipt : goal.invariant-loop-receipt
invariant-loop-receipt l = All (IsAmong (map (λ line. line.now) l.lines) l.shard) (take l.receipt-index l.receipts)
