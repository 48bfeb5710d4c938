use Rattle.std.proofs.Common.{take}
use Rattle.rsl_session.specs.Past.{looking_back}
use Rattle.rsl_rule.specs.Holding.{IsHolding}
use Rattle.rsl_rule.proofs.holding.holding_after.Given as goal

abbrev pub invariant-loop-at : goal.invariant-loop-at
invariant-loop-at l = IsHolding l.rules (looking_back (take l.at l.history)) l.holding
