use Rattle.std.proofs.Common.{refl, sym, ◌∙◌, arith, rules}
use Rattle.rsl_rule.proofs.Kept.{stops_end, stops_pushed, taken_all, taken_enough}
use Rattle.rsl_rule.proofs.closed.stops_of.Goals as goal
use Rattle.rsl_rule.proofs.closed.stops_of.Goals.{then-loop-at-test+else-len-lt-KEPT_STOPS, else-loop-at-test}

pub loop-at-preserved-in-Continue-branch-3 : goal.loop-at-preserved-in-Continue-branch-3
loop-at-preserved-in-Continue-branch-3 c = (
  omega arith,
  stops_pushed c.args.history.now c.loop-at.at _ c.index-history-at.result c.in-Some.stop c.loop-at.each.items c.push.new.self.items _
      (omega arith) (omega arith) c.index-history-at.is refl
      (sym c.in-Some.is ∙ c.in_ok-stop.ensures)
      c.in_ok-push.ensures.items c.loop-at.invariant.1,
  search rules,
)

pub returns : goal.returns
returns c = elim c.loop-at-test.branch [
  | then-loop-at-test+else-len-lt-KEPT_STOPS w ↦ taken_enough _ c.loop-at.each.items _ _ c.loop-at.invariant.1 c.loop-at.invariant.2 (omega (arith, w.len.ensures, w.if-len-lt-KEPT_STOPS))
  | else-loop-at-test w ↦ taken_all _ c.loop-at.each.items _ _ c.loop-at.invariant.1 c.loop-at.invariant.2 (stops_end c.args.history.now c.loop-at.at (omega (arith, w.loop-at-test)))
]
