use Rattle.std.proofs.Common.{map}
use Rattle.rsl_record.proofs.Chains.{AreTaken}
use Rattle.rsl_record.proofs.segments.take_segments.Given as goal

-- the segments so far are taken
abbrev pub invariant-loop-segment : goal.invariant-loop-segment
invariant-loop-segment l = AreTaken (map (λ segment. segment.now) l.segments) l.fn.chain l.chain l.segment-index
