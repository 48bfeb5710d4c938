use Rattle.std.proofs.Common.{ℕ, List, ◌≤◌, All, map}
use Rattle.std.specs.List.Sorted.{IsStrictlyIncreasing}
use Rattle.std.proofs.lemmas.Result.{err_from_is_err_and}
use Rattle.rsl_record.proofs.Chains.{below_more}
use Rattle.rsl_record.proofs.Telling.{each_once, each_rising, number_told}
use Rattle.rsl_record.specs.Faults.{IsAmong}
use Rattle.rsl_record.specs.Receipts.{positions_of, times}
use Rattle.rsl_record.specs.Records.{segments_of}
use Rattle.rsl_record.specs.Segments.{shard_lines}
use Rattle.rsl_record.specs.declared.receipt.Receipt.{Receipt}
use Rattle.rsl_record.proofs.receipts.check_receipts.Goals as goal

pub returns-in_err-check_numbers-clause-err : goal.returns-in_err-check_numbers-clause-err
returns-in_err-check_numbers-clause-err g c =
    let p = err_from_is_err_and c.from_residual.result c.from_residual.ensures.1 in
    rw (p.1, p.2)
    (number_told (segments_of c.args.journals.now) c.args.shards (map g.P.HasReceipts.receipts c.args.passes.now) c.in_err-check_numbers.field-0.0 c.requires
    c.in_err-check_numbers.ensures.err)

pub loop-shard-preserved : goal.loop-shard-preserved
loop-shard-preserved g c =
    record {
      lines =
          below_more (λ (n : ℕ). All (All (IsAmong (shard_lines n (segments_of c.args.journals.now)) n)) (map g.P.HasReceipts.receipts c.args.passes.now))
          c.loop-shard.shard c.loop-shard.invariant.lines c.in_ok-check_shard.ensures.lines;
      rising =
          below_more (λ (n : ℕ). All (λ (pass : List Receipt). IsStrictlyIncreasing (positions_of n pass)) (map g.P.HasReceipts.receipts c.args.passes.now))
          c.loop-shard.shard c.loop-shard.invariant.rising c.in_ok-check_shard.ensures.rising;
      once =
          below_more (λ (n : ℕ). (position : ℕ) → times n position (map g.P.HasReceipts.receipts c.args.passes.now) ≤ 1) c.loop-shard.shard
          c.loop-shard.invariant.once c.in_ok-check_shard.ensures.once;
    }

pub returns-clause-rising : goal.returns-clause-rising
returns-clause-rising g c =
    each_rising c.args.shards c.loop-shard.shard (map g.P.HasReceipts.receipts c.args.passes.now) c.loop-shard-test.false c.in_ok-check_numbers.ensures.numbers
    c.loop-shard.invariant.rising

pub returns-clause-once : goal.returns-clause-once
returns-clause-once g c =
    each_once c.args.shards c.loop-shard.shard (map g.P.HasReceipts.receipts c.args.passes.now) c.loop-shard-test.false c.in_ok-check_numbers.ensures.numbers
    c.loop-shard.invariant.once
