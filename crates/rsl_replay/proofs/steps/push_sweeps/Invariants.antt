use Rattle.std.proofs.Common.{◌≡◌, ◌++◌, map}
use Rattle.std.specs.List.{range_with_len}
use Rattle.rsl_steps.specs.declared.step.Step.TheVariants as steps
use Rattle.rsl_replay.proofs.steps.push_sweeps.Given as goal

abbrev pub invariant-loop-shard : goal.invariant-loop-shard
invariant-loop-shard l = l.steps.items ≡ l.fn.steps.items ++ map (λ shard. steps.Sweep shard l.moment l.nas l.delay) (range_with_len 0 l.shard)
