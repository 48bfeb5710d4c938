use Rattle.std.proofs.Common.{◌≡◌, take}
use Rattle.rsl_session.specs.Past.{looking_back}
use Rattle.rsl_session.specs.Clock.{clock}
use Rattle.rsl_rule.proofs.clock.clock_of.Given as goal

abbrev pub invariant-loop-entry : goal.invariant-loop-entry
invariant-loop-entry l = l.now ≡ clock (looking_back (take l.entry-index l.history))
