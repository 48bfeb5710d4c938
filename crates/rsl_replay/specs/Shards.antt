-- What the shards of a run have for its report.
use Rattle.std.specs.Prelude.{◌≡◌, ℕ, ◌%◌, ◌/◌, List, Option, Some, None, slice_get}
use Rattle.rsl_accounts.specs.Configuration.{Configuration}
use Rattle.rsl_accounts.specs.declared.entry.Entry.{Entry}
use Rattle.rsl_shard.specs.Rows.{rows_of}
use Rattle.rsl_shard.specs.Seen.{ShardSeen, books_of}
use Rattle.rsl_shard.specs.declared.row.Row.{Row}
use Rattle.rsl_steps.specs.Own.{own}
use Rattle.rsl_steps.specs.Ran.{AreShards, HasBookOf}
use Rattle.rsl_steps.specs.declared.step.Step.{Step}

-- the shards after steps listed newest first, with the book of each account
pub record AreShardsAfter (config : Configuration) (boot : ℕ) (before : List Step)
    (shards : List ShardSeen) : Type 0 where
  pub moved : AreShards config boot before shards
  pub books : (account : ℕ) (entry : Entry) → slice_get config.accounts account ≡ Some entry
      → HasBookOf config account entry.rules (own config boot account before) shards

-- the rows of a shard
abbrev pub rows_seen : ShardSeen → List Row
rows_seen seen = rows_of seen.setup (books_of seen)

-- the row at an index of a shard's rows
abbrev pub row_at_index : Option (List Row) → (index : ℕ) → Option Row
row_at_index None index = None
row_at_index (Some rows) index = slice_get rows index

-- the row of an account among the rows of each shard: accounts are dealt to the shards in turn
abbrev pub row_among : (shards : ℕ) → (tables : List (List Row)) → (account : ℕ) → Option Row
row_among shards tables account =
    row_at_index (slice_get tables (account % shards)) (account / shards)
