use Rattle.std.proofs.lemmas.Result.{err_from_is_err_and}
use Rattle.rsl_record.proofs.Walking.{fault_of_segments}
use Rattle.rsl_record.proofs.audit_walk.walk.Goals as goal

pub returns-in_err-take_segment-clause-err : goal.returns-in_err-take_segment-clause-err
returns-in_err-take_segment-clause-err c =
    let p = err_from_is_err_and c.from_residual.result c.from_residual.ensures.1 in
    rw (p.1, p.2)
    (fault_of_segments c.args.config.now c.args.segments.now c.args.chain c.loop-number.chain c.loop-number.number c.index-segments-number.result
    c.in_err-take_segment.field-0.0 c.loop-number-test.true c.index-segments-number.is c.loop-number.invariant c.in_err-take_segment.ensures.err)
