use Rattle.std.proofs.Common.{◌≡◌, ◌≤◌, ◌++◌, [], take, length}
use Rattle.rsl_session.specs.Past.{looking_back}
use Rattle.rsl_session.specs.Ask.{fresh_asks, KEPT_ASKS}
use Rattle.rsl_rule.proofs.Kept.{later_acts}
use Rattle.rsl_rule.proofs.ask.asks_of.Given as goal

abbrev pub invariant-loop-at : goal.invariant-loop-at
invariant-loop-at l = (l.at ≤ length l.history) × (l.asks.items ++ fresh_asks (later_acts l.history l.at) (looking_back (take l.at l.history)) ≡ fresh_asks [] (looking_back l.history)) × (length l.asks.items ≤ KEPT_ASKS)

abbrev pub decreases-loop-at : goal.decreases-loop-at
decreases-loop-at l = l.at
