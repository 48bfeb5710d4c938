use Rattle.std.proofs.lemmas.Result.{err_from_is_err_and}
use Rattle.rsl_record.proofs.Chains.{broken_here, taken_all, taken_more}
use Rattle.rsl_record.proofs.segments.take_segments.Goals as goal

pub returns-in_err-take_segment-clause-err : goal.returns-in_err-take_segment-clause-err
returns-in_err-take_segment-clause-err c =
    let p = err_from_is_err_and c.from_residual.result c.from_residual.ensures.1 in
    rw (p.1, p.2)
    (broken_here c.args.segments.now (λ s. s.now) c.args.chain.now c.loop-segment.chain c.loop-segment.segment-index c.segment-item.result c.in_err-take_segment.field-0.0
    c.loop-segment-test.true c.segment-item.is c.loop-segment.invariant c.in_err-take_segment.ensures.err)

pub loop-segment-preserved : goal.loop-segment-preserved
loop-segment-preserved c =
    taken_more c.args.segments.now (λ s. s.now) c.args.chain.now c.loop-segment.chain c.take_segment.new.chain c.loop-segment.segment-index c.segment-item.result c.loop-segment-test.true
    c.segment-item.is c.in_ok-take_segment.ensures.goes_on c.in_ok-take_segment.ensures.lines c.in_ok-take_segment.ensures.setup
    c.in_ok-take_segment.ensures.books c.loop-segment.invariant

pub returns-clause-joined : goal.returns-clause-joined
returns-clause-joined c =
    taken_all c.args.segments.now (λ s. s.now) c.args.chain.now c.loop-segment.chain c.loop-segment.segment-index c.loop-segment-test.false c.loop-segment.invariant
