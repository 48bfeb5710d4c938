use Rattle.std.proofs.Common.{refl, sym, ◌∙◌, arith, rules}
use Rattle.rsl_rule.proofs.Kept.{asks_end, asks_pushed, taken_all, taken_enough}
use Rattle.rsl_rule.proofs.ask.asks_of.Goals as goal
use Rattle.rsl_rule.proofs.ask.asks_of.Goals.{then-loop-at-test+else-len-lt-KEPT_ASKS, else-loop-at-test}

pub loop-at-preserved-in-Continue-branch-3 : goal.loop-at-preserved-in-Continue-branch-3
loop-at-preserved-in-Continue-branch-3 c = (
  omega arith,
  asks_pushed c.args.history.now c.loop-at.at _ c.index-history-at.result c.in-Some.ask c.loop-at.asks.items c.push.new.self.items _
      (omega arith) (omega arith) c.index-history-at.is refl
      (sym c.in-Some.is ∙ rw c.decision_of_fresh-decision.ensures at c.in_ok-ask.ensures)
      c.in_ok-push.ensures.items c.loop-at.invariant.1,
  search rules,
)

pub returns-clause-asks : goal.returns-clause-asks
returns-clause-asks c = elim c.loop-at-test.branch [
  | then-loop-at-test+else-len-lt-KEPT_ASKS w ↦ taken_enough _ c.loop-at.asks.items _ _ c.loop-at.invariant.1 c.loop-at.invariant.2 (omega (arith, w.len.ensures, w.if-len-lt-KEPT_ASKS))
  | else-loop-at-test w ↦ taken_all _ c.loop-at.asks.items _ _ c.loop-at.invariant.1 c.loop-at.invariant.2 (asks_end c.args.history.now c.loop-at.at (omega (arith, w.loop-at-test)))
]
