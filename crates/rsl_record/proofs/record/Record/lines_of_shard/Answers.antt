use Rattle.rsl_record.proofs.Records.{lines_are}
use Rattle.rsl_record.proofs.record.Record.lines_of_shard.Goals as goal
use Rattle.rsl_record.specs.Records.{segments_of}

pub returns : goal.returns
returns c =
    lines_are c.as_slice.result.now c.in_ok-segments.segments.items (λ s. s.now) c.args.shard (segments_of c.args.self.now) _ c.as_slice.ensures.value
    c.in_ok-segments.ensures c.in_ok-lines.ensures
