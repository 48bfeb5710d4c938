use Rattle.std.proofs.Common.{◌≡◌, map, take}
use Rattle.std.specs.Global.{Vec}
use Rattle.rsl_replay.specs.Shards.{rows_seen}
use Rattle.rsl_shard.specs.declared.row.Row.{Row}
use Rattle.rsl_replay.proofs.rows.tables_of.Given as goal

-- the rows of the shards so far
abbrev pub invariant-loop-shard : goal.invariant-loop-shard
invariant-loop-shard l = map (λ (table : Vec Row). table.items) l.tables.items ≡ map rows_seen (take l.shard-index l.shards)
