use Rattle.rsl_record.proofs.Chains.{made_more}
use Rattle.rsl_record.proofs.segments.take_lines.Goals as goal

pub loop-line-preserved : goal.loop-line-preserved
loop-line-preserved c =
    made_more c.args.lines.now c.args.chain.now c.loop-line.chain c.take_line.new.chain c.loop-line.line-index c.line-item.result c.loop-line-test.true c.line-item.is
    c.in_ok-take_line.ensures.taken c.loop-line.invariant
