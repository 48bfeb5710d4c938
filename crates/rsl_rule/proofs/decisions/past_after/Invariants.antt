use Rattle.std.proofs.Common.{◌≡◌, drop}
use Rattle.rsl_session.specs.Past.{looking_back}
use Rattle.rsl_session.specs.Rule.{past_from, past_of}
use Rattle.rsl_rule.proofs.decisions.past_after.Given as goal

abbrev pub invariant-loop-event : goal.invariant-loop-event
invariant-loop-event l = past_from l.rules (looking_back l.history.items) (drop l.event-index l.events) ≡ past_of l.rules l.events
