use Rattle.rsl_steps.proofs.OwnSteps.{own-end}
use Rattle.rsl_steps.proofs.own_events.own.Goals as goal

pub returns : goal.returns
returns c = own-end c.args.config.now c.args.boot c.args.account c.args.steps.now c.loop-step.step-index c.loop-step.events.items _ c.loop-step-test.false c.loop-step.invariant
