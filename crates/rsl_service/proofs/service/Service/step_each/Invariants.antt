use Rattle.rsl_service.specs.Receipts.{AreNoted}
use Rattle.rsl_service.proofs.service.Service.step_each.Given as goal

-- the shards so far have their receipts
abbrev pub invariant-loop-shard : goal.invariant-loop-shard
invariant-loop-shard g l = AreNoted l.shard l.moved l.fn.pass.receipts l.pass.receipts
