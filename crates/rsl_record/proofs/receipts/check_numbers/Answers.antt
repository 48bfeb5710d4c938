use Rattle.std.proofs.Common.{◌<◌, List, All, subst}
use Rattle.std.proofs.lemmas.Result.{err_from_is_err_and}
use Rattle.rsl_record.proofs.Telling.{all_done, all_more, fault_of_numbers}
use Rattle.rsl_record.specs.Faults.{IsNumberFaultOfPass}
use Rattle.rsl_record.specs.declared.receipt.Receipt.{Receipt}
use Rattle.rsl_record.proofs.receipts.check_numbers.Goals as goal

pub loop-pass-preserved : goal.loop-pass-preserved
loop-pass-preserved g c =
    all_more (All (λ (receipt : Receipt). receipt.shard < c.args.shards)) g.P.HasReceipts.receipts c.args.passes.now c.loop-pass.pass-index c.pass-item.result
    c.loop-pass-test.true c.pass-item.is c.loop-pass.invariant
    (subst (All (λ (receipt : Receipt). receipt.shard < c.args.shards)) c.receipts.ensures c.in_ok-check_numbers_of.ensures.numbers)

pub returns-clause-numbers : goal.returns-clause-numbers
returns-clause-numbers g c =
    all_done (All (λ (receipt : Receipt). receipt.shard < c.args.shards)) g.P.HasReceipts.receipts c.args.passes.now c.loop-pass.pass-index c.loop-pass-test.false
    c.loop-pass.invariant

pub returns-in_err-check_numbers_of-clause-err : goal.returns-in_err-check_numbers_of-clause-err
returns-in_err-check_numbers_of-clause-err g c =
    let p = err_from_is_err_and c.from_residual.result c.from_residual.ensures.1 in
    rw (p.1, p.2)
    (fault_of_numbers c.args.shards g.P.HasReceipts.receipts c.args.passes.now c.loop-pass.pass-index c.pass-item.result c.in_err-check_numbers_of.field-0.0
    c.loop-pass-test.true c.pass-item.is
    (subst (λ (all : List Receipt). IsNumberFaultOfPass c.args.shards all c.in_err-check_numbers_of.field-0.0) c.receipts.ensures
    c.in_err-check_numbers_of.ensures.err))
