use Rattle.std.proofs.Common.{ap, subst, arith}
use Rattle.rsl_accounts.specs.Configuration.{Configuration}
use Rattle.rsl_service.specs.Receipts.{AreNoted}
use Rattle.rsl_service.proofs.service.Service.step_each.Goals as goal

-- the loop ends with the last shard
pub returns-clause-noted : goal.returns-clause-noted
returns-clause-noted g c =
    let shards = ap (λ (config : Configuration). config.settings.shards) c.config.ensures.config in
    subst (λ n. AreNoted n c.args.moved.now c.args.pass.now.receipts c.loop-shard.pass.receipts) (omega (arith, shards, c.loop-shard-test.false)) c.loop-shard.invariant
