use Rattle.std.proofs.Common.{◌∙◌, ap, List, length, arith}
use Rattle.std.specs.List.{flat_map}
use Rattle.std.proofs.lemmas.List.{take_all}
use Rattle.rsl_script.specs.declared.event_line.EventLine.{EventLine}
use Rattle.rsl_replay.specs.Steps.{steps_of_line}
use Rattle.rsl_steps.specs.declared.step.Step.{Step}
use Rattle.rsl_replay.proofs.StepCounts.{length-steps_of_lines}
use Rattle.rsl_replay.proofs.StepLaws.{line_more}
use Rattle.rsl_replay.proofs.steps.steps_of.Goals as goal

pub loop-line-preserved : goal.loop-line-preserved
loop-line-preserved c =
    line_more (steps_of_line c.args.config.now c.args.boot) c.args.lines.now c.line-item.result _ _ c.loop-line.line-index c.loop-line-test.true c.line-item.is c.loop-line.invariant c.in_ok-push_line.ensures

pub returns-clause-count : goal.returns-clause-count
returns-clause-count c =
    let steps = steps_of_line c.args.config.now c.args.boot in
    ap (λ (x : List Step). length x) (c.loop-line.invariant ∙ ap (λ (x : List EventLine). flat_map steps x) (take_all c.loop-line.line-index c.args.lines.now (omega arith)))
    ∙ length-steps_of_lines c.args.config.now c.args.boot c.args.lines.now
