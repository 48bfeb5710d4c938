use Rattle.std.proofs.Common.{◌≡◌, ◌++◌, take}
use Rattle.rsl_record.specs.Receipts.{positions_of}
use Rattle.rsl_record.proofs.positions.push_positions.Given as goal

abbrev pub invariant-loop-receipt : goal.invariant-loop-receipt
invariant-loop-receipt l = l.positions.items ≡ l.initial.positions.items ++ positions_of l.shard (take l.receipt-index l.receipts)
