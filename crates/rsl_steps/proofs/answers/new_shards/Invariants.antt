use Rattle.rsl_steps.proofs.Shards.{AreFirst}
use Rattle.rsl_steps.proofs.answers.new_shards.Given as goal

abbrev pub invariant-loop-number : goal.invariant-loop-number
invariant-loop-number l = AreFirst l.config l.number l.shards.items
