use Rattle.std.proofs.Common.{◌≡◌, ◌≤◌, ◌++◌, [], take, length}
use Rattle.rsl_session.specs.Past.{looking_back}
use Rattle.rsl_session.specs.Closed.{stops, KEPT_STOPS}
use Rattle.rsl_rule.proofs.Kept.{later_acts}
use Rattle.rsl_rule.proofs.closed.stops_of.Given as goal

abbrev pub invariant-loop-at : goal.invariant-loop-at
invariant-loop-at l = (l.at ≤ length l.history) × (l.each.items ++ stops (later_acts l.history l.at) (looking_back (take l.at l.history)) ≡ stops [] (looking_back l.history)) × (length l.each.items ≤ KEPT_STOPS)

abbrev pub decreases-loop-at : goal.decreases-loop-at
decreases-loop-at l = l.at
