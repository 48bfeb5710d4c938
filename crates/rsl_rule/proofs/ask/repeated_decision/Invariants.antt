use Rattle.std.proofs.Common.{◌≡◌, drop}
use Rattle.std.specs.Prelude.{find}
use Rattle.rsl_session.specs.Ask.{repeats}
use Rattle.rsl_rule.proofs.ask.repeated_decision.Given as goal

abbrev pub invariant-loop-ask : goal.invariant-loop-ask
invariant-loop-ask l = find (repeats l.rules l.key l.now) (drop l.ask-index l.ask-items) ≡ find (repeats l.rules l.key l.now) l.ask-items
