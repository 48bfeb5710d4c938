-- How a generation begins: a header with a table, a snapshot, and no moves yet.
use Rattle.std.specs.Prelude.{◌≡◌, ◌⊎◌, ℕ, List, [], ◌∷◌, length}
use Rattle.rsl_accounts.specs.Configuration.{Configuration}
use Rattle.rld_books.specs.Server.{ServerSeen}
use Rattle.rld_log.specs.Frames.{Fits, HasPayloads, frames}
use Rattle.rld_log.specs.Recording.{IsSettled}
use Rattle.rld_log.specs.declared.log.Ending.{Ending}
use Rattle.rld_spelling.specs.Headers.{header_field}
use Rattle.rld_spelling.specs.declared.header.Header.{Header}
use Rattle.rld_store.specs.Generations.{IsGeneration, IsSnapshot, counts_of, front_octets, octets_of}

-- the payloads of a header with a table, and of a snapshot of these books, and the length of their
-- frames
pub record IsFront (config : Configuration) (header : Header) (begun : ServerSeen)
    (first second : List ℕ) (whole : ℕ) : Type 0 where
  pub header_fits : header_field.Fits header
  pub header_is : first ≡ front_octets header (octets_of config)
  pub snapshot_is : IsSnapshot (counts_of config) begun second
  pub header_short : Fits first
  pub snapshot_short : Fits second
  pub size : whole ≡ length (frames (first ∷ second ∷ []))

-- a log of a generation with no moves yet, all of it synced
pub record IsBegun (config : Configuration) (header : Header) (begun : ServerSeen) (seen : List ℕ)
    (may_leave : Ending → List ℕ → Type 0) (whole : ℕ) : Type 0 where
  pub payloads : List (List ℕ)
  pub generation : IsGeneration config header begun [] payloads
  pub settled : IsSettled seen may_leave payloads
  pub size : whole ≡ length (frames payloads)

-- a file with no payload, or with this one
abbrev pub HasAtMostOne : (first : List ℕ) → (file : List ℕ) → Type 0
HasAtMostOne first file = HasPayloads file [] ⊎ HasPayloads file (first ∷ [])
