use Rattle.rsl_record.proofs.Records.{of_both}
use Rattle.rsl_record.proofs.record.Record.of_shard.Goals as goal

pub returns : goal.returns
returns c =
    of_both c.new-segments.result.items (λ s. s.now) c.args.shard c.args.self.now.given.now c.args.self.now.present.now _ _ c.new-segments.ensures.items
    c.in_ok-push_of_shard.ensures c.in_ok-push_of_shard-2.ensures
