use Rattle.std.proofs.Common.{arith}
use Rattle.rsl_steps.proofs.Shards.{first_all, first_more, first_none}
use Rattle.rsl_steps.proofs.answers.new_shards.Goals as goal

pub loop-number-init : goal.loop-number-init
loop-number-init c = rw c.new-shards.ensures.items (first_none c.args.config.now)

pub loop-number-preserved : goal.loop-number-preserved
loop-number-preserved c =
    rw c.in_ok-push.ensures.items (first_more c.args.config.now c.loop-number.number c.loop-number.shards.items c.in_ok-new.field-0 c.loop-number.invariant c.in_ok-new.ensures)

pub returns-clause-new : goal.returns-clause-new
returns-clause-new c = λ boot. first_all c.args.config.now boot c.loop-number.number c.loop-number.shards.items c.loop-number.invariant (omega arith)
