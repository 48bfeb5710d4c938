use Rattle.std.proofs.Common.{◌∷◌, ◌++◌, [], ap, ◌∙◌}
use Rattle.rsl_event.specs.declared.nas.Nas.{Nas}
use Rattle.rsl_steps.specs.declared.step.Step.TheVariants as steps
use Rattle.rsl_replay.proofs.StepLaws.{shard_more}
use Rattle.rsl_replay.proofs.steps.push_sweeps.Goals as goal

pub loop-shard-preserved : goal.loop-shard-preserved
loop-shard-preserved c =
    shard_more (λ shard. steps.Sweep shard c.args.moment c.args.nas.now c.args.delay) c.args.steps.now.items _ _ c.loop-shard.shard c.loop-shard.invariant
    (c.in_ok-push.ensures.items ∙ ap (λ (nas : Nas). c.loop-shard.steps.items ++ steps.Sweep c.loop-shard.shard c.args.moment nas c.args.delay ∷ []) c.in_ok-nas.ensures.copy)
