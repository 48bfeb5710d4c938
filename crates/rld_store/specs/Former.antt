-- A generation of a version before format 3: it has another header and no table, and the books of its
-- snapshot stand shard after shard. All else is as in a generation of today.
use Rattle.std.specs.Prelude.{◌≡◌, ℕ, List, ◌∷◌, map, Ok}
use Rattle.rsl_accounts.specs.Configuration.{Configuration}
use Rattle.rsl_shard.specs.declared.moved.Move.{Move}
use Rattle.rld_books.specs.Dealt.{AreDealt}
use Rattle.rld_books.specs.Saved.{IsServerOf}
use Rattle.rld_books.specs.Server.{ServerSeen, replay}
use Rattle.rld_log.specs.Frames.{HasPayloads}
use Rattle.rld_spelling.specs.Books.{BookSeen, books_field}
use Rattle.rld_spelling.specs.Former.{former_header_at}
use Rattle.rld_spelling.specs.Lists.{all_of}
use Rattle.rld_spelling.specs.declared.former.FormerHeader.{FormerHeader}
use Rattle.rld_spelling.specs.declared.moves.Counts.{Counts}
use Rattle.rld_store.specs.Generations.{AreBatches, counts_of, running}

-- a snapshot of the books of accounts that were dealt to this many shards, as octets
pub record IsFormerSnapshot (shards : ℕ) (counts : Counts) (server : ServerSeen) (octets : List ℕ)
    : Type 0 where
  pub books : List BookSeen
  pub are : AreDealt shards (map running books) server
  pub fit : (books_field counts.clients).Fits books
  pub spelled : octets ≡ (books_field counts.clients).spell books

-- the payloads of such a generation that began with these books, with the moves that followed
pub record IsFormerGeneration (shards : ℕ) (counts : Counts) (header : FormerHeader)
    (begun : ServerSeen) (moves : List Move) (payloads : List (List ℕ)) : Type 0 where
  pub first : List ℕ
  pub header_is : all_of (former_header_at first) ≡ Ok header
  pub snapshot : List ℕ
  pub snapshot_is : IsFormerSnapshot shards counts begun snapshot
  pub batches : List (List ℕ)
  pub batches_are : AreBatches counts moves batches
  pub payloads_are : payloads ≡ first ∷ snapshot ∷ batches

-- payloads are such a generation, and these are the books after its moves
pub record EndsFormerly (config : Configuration) (shards : ℕ) (payloads : List (List ℕ))
    (header : FormerHeader) (books : ServerSeen) : Type 0 where
  pub begun : ServerSeen
  pub begun_is : IsServerOf config begun
  pub moves : List Move
  pub generation : IsFormerGeneration shards (counts_of config) header begun moves payloads
  pub books_are : books ≡ replay begun moves

-- so are the payloads of the whole frames of a file
pub record EndsFormer (config : Configuration) (shards : ℕ) (file : List ℕ) (header : FormerHeader)
    (books : ServerSeen) : Type 0 where
  pub payloads : List (List ℕ)
  pub has : HasPayloads file payloads
  pub ends : EndsFormerly config shards payloads header books
