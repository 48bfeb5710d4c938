use Rattle.rsl_record.proofs.Walking.{AreWalked}
use Rattle.rsl_record.proofs.audit_walk.walk.Given as goal

-- the segments so far are walked
abbrev pub invariant-loop-number : goal.invariant-loop-number
invariant-loop-number l = AreWalked l.config l.segments l.fn.chain l.chain l.number
