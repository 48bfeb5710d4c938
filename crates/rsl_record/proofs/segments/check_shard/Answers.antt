use Rattle.rsl_record.proofs.Chains.{broken_told, joined_told}
use Rattle.rsl_record.specs.Records.{segments_of}
use Rattle.rsl_record.proofs.segments.check_shard.Goals as goal

pub returns-clause-joined : goal.returns-clause-joined
returns-clause-joined c =
    joined_told c.as_slice.result.now c.in_ok-segments.segments.items (λ s. s.now) c.args.config.now c.args.shard c.in_ok-chain.chain (segments_of c.args.journals.now)
    c.take_segments.result c.requires c.in_ok-chain.ensures.lines c.in_ok-chain.ensures.books c.as_slice.ensures.value c.in_ok-segments.ensures
    c.take_segments.ensures.joined

pub returns-clause-err : goal.returns-clause-err
returns-clause-err c =
    broken_told c.as_slice.result.now c.in_ok-segments.segments.items (λ s. s.now) c.args.config.now c.args.shard c.in_ok-chain.chain (segments_of c.args.journals.now)
    c.take_segments.result c.in_ok-chain.ensures.lines c.in_ok-chain.ensures.books c.as_slice.ensures.value c.in_ok-segments.ensures
    c.take_segments.ensures.err
