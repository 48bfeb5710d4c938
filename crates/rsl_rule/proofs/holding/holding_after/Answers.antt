use Rattle.rsl_rule.proofs.Carried.{holding_more, holding_all}
use Rattle.rsl_rule.proofs.holding.holding_after.Goals as goal

pub loop-at-init : goal.loop-at-init
loop-at-init c = c.new-holding.ensures c.args.rules.now

pub loop-at-preserved : goal.loop-at-preserved
loop-at-preserved c = holding_more c.args.rules.now c.args.history.now c.loop-at.at c.index-history-at.result c.in_ok-holding.holding c.loop-at-test.true c.index-history-at.is c.in_ok-holding.ensures

pub returns-clause-holding : goal.returns-clause-holding
returns-clause-holding c = holding_all c.args.rules.now c.args.history.now c.loop-at.at c.loop-at.holding c.loop-at-test.false c.loop-at.invariant
