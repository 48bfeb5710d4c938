use Rattle.std.proofs.Common.{◌<◌, All, map, take}
use Rattle.rsl_record.proofs.receipts.check_numbers.Given as goal

abbrev pub invariant-loop-pass : goal.invariant-loop-pass
invariant-loop-pass g l = All (All (λ receipt. receipt.shard < l.shards)) (map g.P.HasReceipts.receipts (take l.pass-index l.passes))
