-- What a start goes on with, by the log of the generation that counts.
use Rattle.std.specs.Prelude.{◌≡◌, ◌<◌, ◌^◌, ◌⊎◌, ℕ, List, ◌∷◌, Ok}
use Rattle.md5.specs.Md5.{md5}
use Rattle.rld_books.specs.Admitted.{AreAdmitted}
use Rattle.rld_books.specs.Cut.{cut_server, late_in_server}
use Rattle.rld_books.specs.Server.{ServerSeen}
use Rattle.rld_log.specs.Frames.{HasPayloads}
use Rattle.rld_spelling.specs.Former.{former_header_at, former_seen, former_table_at}
use Rattle.rld_spelling.specs.Lists.{all_of}
use Rattle.rld_spelling.specs.TableSpelled.{table_octets, table_seen}
use Rattle.rld_spelling.specs.Tables.{table_of}
use Rattle.rld_spelling.specs.declared.former.FormerHeader.{FormerHeader}
use Rattle.rld_spelling.specs.declared.former.FormerTable.{FormerTable}
use Rattle.rld_spelling.specs.declared.header.Header.{Header}
use Rattle.rld_start.specs.NextHeaders.{first_header, header_after, header_changed}
use Rattle.rld_start.specs.declared.newest.Begun.{Begun as WasBegun}
use Rattle.rld_store.specs.Former.{EndsFormer}
use Rattle.rld_store.specs.Generations.{octets_of}
use Rattle.rld_store.specs.Opening.{IsThereIn}
use Rattle.rsl_accounts.specs.Configuration.{Configuration}

-- the log has a generation of this configuration, with this header, and these are the books after its moves: the next
-- generation has these books, and its header counts its moves
pub record GoesOn (config : Configuration) (begun : WasBegun) (next : Header) (books : ServerSeen) : Type 0 where
  pub header : Header
  pub count : ℕ
  pub there : IsThereIn config begun.frames.octets.items header books count
  pub next_is : next ≡ header_after header next.generation count

-- The log has a generation of a configuration with another table: the books are admitted from those at its end, and
-- the next generation has another table.
pub record Admits (new : Configuration) (begun : WasBegun) (next : Header) (books : ServerSeen) : Type 0 where
  pub old : Configuration
  pub other : octets_of old ≡ octets_of new → ⊥
  pub header : Header
  pub end : ServerSeen
  pub count : ℕ
  pub there : IsThereIn old begun.frames.octets.items header end count
  pub admitted : AreAdmitted (table_of old) end (table_of new) books
  pub next_is : next ≡ header_changed header next.generation count

-- the file of an era of before, which a header names, has this table, and a configuration has it too
pub record IsTableOf (header : FormerHeader) (former : FormerTable) (config : Configuration) : Type 0 where
  pub octets : List ℕ
  pub named : header.digest ≡ md5 octets
  pub read : all_of (former_table_at octets) ≡ Ok (former_seen former)
  pub same : table_octets (table_seen former.table) ≡ octets_of config

-- a log of before has this header
pub record HasFormerHeader (octets : List ℕ) (header : FormerHeader) : Type 0 where
  pub payloads : List (List ℕ)
  pub has : HasPayloads octets payloads
  pub first : List ℕ
  pub rest : List (List ℕ)
  pub are : payloads ≡ first ∷ rest
  pub read : all_of (former_header_at first) ≡ Ok header

-- The books are admitted from those at the end of a log that a version before format 3 wrote, by
-- the file of its era. The numbers begin anew, under the boot number of the era.
pub record AdmitsFormer (new : Configuration) (begun : WasBegun) (next : Header) (books : ServerSeen) : Type 0 where
  pub former : FormerTable
  pub old : Configuration
  pub header : FormerHeader
  pub has : HasFormerHeader begun.frames.octets.items header
  pub table : IsTableOf header former old
  pub again : FormerHeader
  pub end : ServerSeen
  pub ends : EndsFormer old former.shards begun.frames.octets.items again end
  pub admitted : AreAdmitted (table_of old) end (table_of new) books
  pub next_is : next ≡ first_header next.generation former.boot

-- a start goes on from the log of a generation, with its table or with another one
abbrev pub Follows : Configuration → WasBegun → (next : Header) → (books : ServerSeen) → Type 0
Follows config begun next books =
    GoesOn config begun next books ⊎ (Admits config begun next books ⊎ AdmitsFormer config begun next books)

-- the books are those of a generation's end, cut to a moment; so many of their moments were later, unless
-- there are too many to count
abbrev pub IsCut : (now : ℕ) → (ending books : ServerSeen) → (moments : ℕ) → Type 0
IsCut now ending books moments =
    (books ≡ cut_server now ending)
    × (late_in_server now ending < 2 ^ 64 → moments ≡ late_in_server now ending)

-- the log has a generation of this configuration: the next one has its books, cut
pub record HasCut (config : Configuration) (begun : WasBegun) (now : ℕ) (next : Header) (books : ServerSeen)
    (moments : ℕ) : Type 0 where
  pub header : Header
  pub end : ServerSeen
  pub count : ℕ
  pub there : IsThereIn config begun.frames.octets.items header end count
  pub cut : IsCut now end books moments
  pub next_is : next ≡ header_after header next.generation count
