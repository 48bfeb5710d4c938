use Rattle.rsl_record.proofs.Walking.{AreTaken}
use Rattle.rsl_record.proofs.audit_walk.take_lines.Given as goal

-- the lines so far are taken
abbrev pub invariant-loop-line : goal.invariant-loop-line
invariant-loop-line l = AreTaken l.config l.lines l.fn.chain l.chain l.line-index
