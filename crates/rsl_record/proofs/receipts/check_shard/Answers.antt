use Rattle.std.proofs.Common.{List, ℕ, ◌++◌, map, ap, ◌∙◌}
use Rattle.std.specs.List.{flat_map}
use Rattle.rsl_record.proofs.Telling.{once_told}
use Rattle.rsl_record.specs.Receipts.{positions_of}
use Rattle.rsl_record.proofs.receipts.check_shard.Goals as goal

pub returns-clause-once : goal.returns-clause-once
returns-clause-once g c =
    once_told c.args.shard (map g.P.HasReceipts.receipts c.args.passes.now) c.check_passes.new.positions.items
    (c.in_ok-check_passes.ensures.positions
    ∙ ap (λ (all : List ℕ). all ++ flat_map (positions_of c.args.shard) (map g.P.HasReceipts.receipts c.args.passes.now)) c.new-positions.ensures.items)
    c.in-None.ensures.once
