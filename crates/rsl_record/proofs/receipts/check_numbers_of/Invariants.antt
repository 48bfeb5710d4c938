use Rattle.std.proofs.Common.{◌<◌, All, take}
use Rattle.rsl_record.proofs.receipts.check_numbers_of.Given as goal

abbrev pub invariant-loop-receipt : goal.invariant-loop-receipt
invariant-loop-receipt l = All (λ receipt. receipt.shard < l.shards) (take l.receipt-index l.receipts)
