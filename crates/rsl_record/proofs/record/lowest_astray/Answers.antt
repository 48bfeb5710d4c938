use Rattle.rsl_record.proofs.Chains.{astray_all, astray_more}
use Rattle.rsl_record.proofs.record.lowest_astray.Goals as goal

pub loop-segment-preserved : goal.loop-segment-preserved
loop-segment-preserved c =
    astray_more c.args.shards c.args.found c.loop-segment.lowest c.lower-lowest.result c.args.segments.now c.loop-segment.segment-index c.segment-item.result
    c.loop-segment-test.true c.segment-item.is c.loop-segment.invariant c.lower-lowest.ensures

pub returns : goal.returns
returns c =
    astray_all c.args.shards c.args.segments.now c.args.found c.loop-segment.lowest c.loop-segment.segment-index c.loop-segment-test.false
    c.loop-segment.invariant
