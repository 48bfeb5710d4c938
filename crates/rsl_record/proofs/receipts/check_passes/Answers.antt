use Rattle.std.proofs.Common.{◌≡◌, List, ◌++◌, All, map, subst}
use Rattle.std.specs.List.Sorted.{IsStrictlyIncreasing}
use Rattle.std.proofs.lemmas.Result.{err_from_is_err_and}
use Rattle.rsl_record.proofs.Telling.{all_more, fault_of_passes, positions_step}
use Rattle.rsl_record.specs.Faults.{IsAmong, IsFaultOfPass}
use Rattle.rsl_record.specs.Receipts.{positions_of}
use Rattle.rsl_record.specs.declared.receipt.Receipt.{Receipt}
use Rattle.rsl_record.proofs.receipts.check_passes.Goals as goal

pub returns-in_err-check_pass-clause-err : goal.returns-in_err-check_pass-clause-err
returns-in_err-check_pass-clause-err g c =
    let p = err_from_is_err_and c.from_residual.result c.from_residual.ensures.1 in
    rw (p.1, p.2)
    (fault_of_passes (map (λ line. line.now) c.args.lines.now) c.args.shard g.P.HasReceipts.receipts c.args.passes.now c.loop-pass.pass-index c.pass-item.result
    c.in_err-check_pass.field-0.0 c.loop-pass-test.true c.pass-item.is
    (subst (λ (all : List Receipt). IsFaultOfPass (map (λ line. line.now) c.args.lines.now) c.args.shard all c.in_err-check_pass.field-0.0) c.receipts.ensures
    c.in_err-check_pass.ensures.err))

pub loop-pass-preserved : goal.loop-pass-preserved
loop-pass-preserved g c =
    record {
      lines =
          all_more (All (IsAmong (map (λ line. line.now) c.args.lines.now) c.args.shard)) g.P.HasReceipts.receipts c.args.passes.now c.loop-pass.pass-index
          c.pass-item.result c.loop-pass-test.true c.pass-item.is c.loop-pass.invariant.lines
          (subst (All (IsAmong (map (λ line. line.now) c.args.lines.now) c.args.shard)) c.receipts.ensures c.in_ok-check_pass.ensures.lines);
      rising =
          all_more (λ (pass : List Receipt). IsStrictlyIncreasing (positions_of c.args.shard pass)) g.P.HasReceipts.receipts c.args.passes.now c.loop-pass.pass-index
          c.pass-item.result c.loop-pass-test.true c.pass-item.is c.loop-pass.invariant.rising
          (subst (λ (pass : List Receipt). IsStrictlyIncreasing (positions_of c.args.shard pass)) c.receipts.ensures c.in_ok-check_pass.ensures.rising);
      positions =
          positions_step c.args.shard g.P.HasReceipts.receipts c.args.passes.now c.loop-pass.pass-index c.pass-item.result _ _ _ c.loop-pass-test.true c.pass-item.is
          c.loop-pass.invariant.positions
          (subst (λ (pass : List Receipt). c.check_pass.new.positions.items ≡ c.loop-pass.positions.items ++ positions_of c.args.shard pass) c.receipts.ensures
          c.in_ok-check_pass.ensures.positions);
    }
