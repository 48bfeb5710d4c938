use Rattle.std.proofs.Common.{◌∙◌, sym}
use Rattle.rsl_replay.specs.Steps.{step_count}
use Rattle.rsl_replay.proofs.StepCounts.{length-steps_of_line}
use Rattle.rsl_replay.proofs.steps.step_count.Goals as goal

pub returns-clause-steps : goal.returns-clause-steps
unfolding step_count
returns-clause-steps c = λ boot. length-steps_of_line c.args.config.now boot c.args.line.now ∙ sym c.step_count_of.ensures
