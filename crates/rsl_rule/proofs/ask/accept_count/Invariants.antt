use Rattle.std.proofs.Common.{◌≡◌, ◌≤◌, take}
use Rattle.rsl_session.specs.Past.{looking_back}
use Rattle.rsl_session.specs.Ask.{accepts}
use Rattle.rsl_rule.proofs.ask.accept_count.Given as goal

abbrev pub invariant-loop-entry : goal.invariant-loop-entry
invariant-loop-entry l = (l.count ≡ accepts (looking_back (take l.entry-index l.history))) × (l.count ≤ l.entry-index)
