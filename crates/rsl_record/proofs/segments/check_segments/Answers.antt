use Rattle.std.proofs.Common.{ℕ, Some, None, arith, subst}
use Rattle.rsl_record.proofs.Chains.{each_joined, lowest_broken}
use Rattle.rsl_record.specs.Faults.{IsLowestAstray}
use Rattle.rsl_record.specs.Records.{segments_of}
use Rattle.rsl_record.proofs.segments.check_segments.Goals as goal

pub returns-in-Some-clause-err : goal.returns-in-Some-clause-err
returns-in-Some-clause-err c =
    lowest_broken c.args.config.now (segments_of c.args.journals.now) c.loop-shard.shard c.in-Some.shard
    (omega (arith, c.loop-shard-test.false, c.shards-shard-end.ensures.number)) c.loop-shard.invariant
    (subst (λ (n : ℕ). IsLowestAstray n (segments_of c.args.journals.now) (Some c.in-Some.shard)) c.shards.ensures.number c.in-Some.ensures)

pub returns-in-None-clause-joined : goal.returns-in-None-clause-joined
returns-in-None-clause-joined c =
    each_joined c.args.config.now (segments_of c.args.journals.now) c.loop-shard.shard
    (omega (arith, c.loop-shard-test.false, c.shards-shard-end.ensures.number)) c.loop-shard.invariant
    (subst (λ (n : ℕ). IsLowestAstray n (segments_of c.args.journals.now) None) c.shards.ensures.number c.in-None.ensures)
