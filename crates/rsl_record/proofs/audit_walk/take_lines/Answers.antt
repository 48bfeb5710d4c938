use Rattle.std.proofs.lemmas.Result.{err_from_is_err_and}
use Rattle.rsl_record.proofs.Walking.{fault_of_lines, taken_more, taken_none}
use Rattle.rsl_record.proofs.audit_walk.take_lines.Goals as goal

pub loop-line-init : goal.loop-line-init
loop-line-init c = taken_none c.args.config.now c.args.lines.now c.args.chain.now

pub returns-in_err-take_line-clause-err : goal.returns-in_err-take_line-clause-err
returns-in_err-take_line-clause-err c =
    let p = err_from_is_err_and c.from_residual.result c.from_residual.ensures.1 in
    rw (p.1, p.2)
    (fault_of_lines c.args.config.now c.args.lines.now c.args.chain.now c.loop-line.chain c.loop-line.line-index c.line-item.result c.in_err-take_line.field-0.0
    c.loop-line-test.true c.line-item.is c.loop-line.invariant c.in_err-take_line.ensures.err)

pub loop-line-preserved : goal.loop-line-preserved
loop-line-preserved c =
    taken_more c.args.config.now c.args.lines.now c.args.chain.now c.loop-line.chain c.take_line.new.chain c.loop-line.line-index c.line-item.result
    c.loop-line-test.true c.line-item.is c.loop-line.invariant c.in_ok-take_line.ensures.count c.in_ok-take_line.ensures.right c.in_ok-take_line.ensures.chain
