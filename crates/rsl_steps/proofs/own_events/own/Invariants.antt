use Rattle.std.proofs.Common.{◌≡◌, ◌++◌, drop}
use Rattle.rsl_steps.specs.Own.{own_events}
use Rattle.rsl_steps.proofs.own_events.own.Given as goal

-- those found, and those among what is left
abbrev pub invariant-loop-step : goal.invariant-loop-step
invariant-loop-step l = l.events.items ++ own_events l.config l.boot l.account (drop l.step-index l.steps) ≡ own_events l.config l.boot l.account l.steps
