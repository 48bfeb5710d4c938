-- Snapshots of versions before format 3. The accounts were dealt to 1 to 4 shards in turn, and the
-- books of shard 0 came first, in the order of the accounts' numbers, then those of shard 1, and so
-- on.
use Rattle.std.specs.Prelude.{◌≡◌, ℕ, zero, suc, ◌+◌, ◌-◌, ◌%◌, ◌/◌, ◌<◌, List, length, slice_get}
use Rattle.std.specs.Int.{div_ceil}
use Rattle.std.specs.Option.{option_map}
use Rattle.rsl_book.specs.Restored.{saved}
use Rattle.rsl_session.specs.Book.{Book}
use Rattle.rld_books.specs.Server.{ServerSeen}

-- how many books stand before those of a shard, where `count` accounts were dealt to `shards`
unfoldable pub books_before : (shards count shard : ℕ) → ℕ
books_before shards count zero = 0
books_before shards count (suc shard) =
    books_before shards count shard + div_ceil (count - shard) shards

-- the place of an account's book in such a snapshot
abbrev pub dealt_place : (shards count account : ℕ) → ℕ
dealt_place shards count account =
    books_before shards count (account % shards) + account / shards

-- these books stand so in such a snapshot
pub record AreDealt (shards : ℕ) (kept : List Book) (server : ServerSeen) : Type 0 where
  pub count : length kept ≡ length server
  pub each : (account : ℕ) → account < length server
      → slice_get kept (dealt_place shards (length server) account)
      ≡ option_map saved (slice_get server account)
