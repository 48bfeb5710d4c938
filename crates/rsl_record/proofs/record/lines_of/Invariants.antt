use Rattle.std.proofs.Common.{◌≡◌, map, take}
use Rattle.rsl_record.specs.Segments.{lines_of}
use Rattle.rsl_record.proofs.record.lines_of.Given as goal

abbrev pub invariant-loop-segment : goal.invariant-loop-segment
invariant-loop-segment l = map (λ line. line.now) l.lines.items ≡ lines_of (map (λ segment. segment.now) (take l.segment-index l.segments))
