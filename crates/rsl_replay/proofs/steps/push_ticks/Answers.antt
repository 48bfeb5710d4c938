use Rattle.rsl_steps.specs.declared.step.Step.TheVariants as steps
use Rattle.rsl_replay.proofs.StepLaws.{shard_more}
use Rattle.rsl_replay.proofs.steps.push_ticks.Goals as goal

pub loop-shard-preserved : goal.loop-shard-preserved
loop-shard-preserved c =
    shard_more (λ shard. steps.Tick shard c.args.moment) c.args.steps.now.items _ _ c.loop-shard.shard c.loop-shard.invariant c.in_ok-push.ensures.items
