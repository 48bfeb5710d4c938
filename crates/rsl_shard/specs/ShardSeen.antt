-- How the inside of a shard is seen.
use Rattle.std.specs.Prelude.{◌≡◌}
use Rattle.rsl_shard.specs.Opening.{opening_of}
use Rattle.rsl_shard.specs.Seen.{IsShard, ShardSeen, books_of}
use Rattle.rsl_shard.specs.declared.shard.Shard.TheInside.{Inside}

abbrev pub shard_seen : Inside → ShardSeen
shard_seen inside = record {
  setup = inside.books.setup;
  first = inside.first;
  opening = opening_of inside.opening inside.books.books;
  lines = inside.journal.lines;
}

-- the books are what the journal makes of the opening
pub record HasJournal (inside : Inside) : Type 0 where
  pub restepped : inside.books.books ≡ books_of (shard_seen inside)
  pub kept : IsShard (shard_seen inside)
