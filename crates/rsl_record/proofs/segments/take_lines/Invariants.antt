use Rattle.rsl_record.proofs.Chains.{AreMade}
use Rattle.rsl_record.proofs.segments.take_lines.Given as goal

-- the lines so far are taken
abbrev pub invariant-loop-line : goal.invariant-loop-line
invariant-loop-line l = AreMade l.lines l.fn.chain l.chain l.line-index
