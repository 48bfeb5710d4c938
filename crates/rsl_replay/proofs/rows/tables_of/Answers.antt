use Rattle.std.specs.Global.{Vec}
use Rattle.rsl_shard.specs.declared.row.Row.{Row}
use Rattle.rsl_replay.proofs.ReportLaws.{tables_all, tables_more}
use Rattle.rsl_replay.proofs.rows.tables_of.Goals as goal

pub loop-shard-preserved : goal.loop-shard-preserved
loop-shard-preserved c =
    tables_more (λ (table : Vec Row). table.items) c.args.shards.now c.loop-shard.shard-index c.shard-item.result c.loop-shard.tables.items _ _
    c.loop-shard-test.true c.shard-item.is c.loop-shard.invariant c.in_ok-rows.ensures c.in_ok-push.ensures.items

pub returns : goal.returns
returns c = tables_all (λ (table : Vec Row). table.items) c.args.shards.now c.loop-shard.shard-index c.loop-shard.tables.items c.loop-shard-test.false c.loop-shard.invariant
