use Rattle.rsl_record.proofs.Records.{lines_done, lines_more}
use Rattle.rsl_record.proofs.record.lines_of.Goals as goal

pub loop-segment-preserved : goal.loop-segment-preserved
loop-segment-preserved c =
    lines_more c.args.segments.now (λ s. s.now) c.loop-segment.segment-index c.segment-item.result _ _ c.as_slice.result.now c.loop-segment-test.true c.segment-item.is
    c.loop-segment.invariant c.in_ok-push_lines.ensures c.as_slice.ensures.value

pub returns : goal.returns
returns c = lines_done c.args.segments.now (λ s. s.now) c.loop-segment.segment-index _ c.loop-segment-test.false c.loop-segment.invariant
