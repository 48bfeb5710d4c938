-- A generation of the log: its header with the table of its accounts and clients, a snapshot of the
-- books that it begins with, and the moves that followed, batch by batch. Each of these is the payload
-- of a frame.
use Rattle.std.specs.Prelude.{◌≡◌, ◌⊎◌, ℕ, ◌<◌, List, ◌∷◌, ◌++◌, length, map}
use Rattle.std.specs.List.{flat_map, AllByRecursion}
use Rattle.rsl_accounts.specs.Configuration.{Configuration}
use Rattle.rsl_session.specs.Saved.{saved_links}
use Rattle.rsl_session.specs.Book.{Book}
use Rattle.rsl_shard.specs.declared.moved.Move.{Move}
use Rattle.rld_books.specs.Saved.{IsServerOf, saved_server}
use Rattle.rld_books.specs.Server.{ServerSeen, replay}
use Rattle.rld_log.specs.Frames.{HasPayloads}
use Rattle.rld_spelling.specs.Books.{BookSeen, books_field}
use Rattle.rld_spelling.specs.Headers.{header_field, header_octets}
use Rattle.rld_spelling.specs.Moves.{moves_field}
use Rattle.rld_spelling.specs.TableSpelled.{table_octets}
use Rattle.rld_spelling.specs.Tables.{table_of}
use Rattle.rld_spelling.specs.declared.header.Header.{Header}
use Rattle.rld_spelling.specs.declared.moves.Counts.{Counts}

-- the numbers of accounts and clients
abbrev pub counts_of : Configuration → Counts
counts_of config = record { accounts = length config.accounts; clients = length config.clients }

-- the octets of a configuration's table
abbrev pub octets_of : Configuration → List ℕ
octets_of config = table_octets (table_of config)

-- the front of a generation: its header, and behind it the octets of a table
abbrev pub front_octets : Header → (table : List ℕ) → List ℕ
front_octets header table = header_octets header ++ table

-- the running book that a book of a snapshot stands for
abbrev pub running : BookSeen → Book
running book = record {
  clock = book.clock;
  links = saved_links book.links;
  accepts = book.accepts;
  asks = book.asks;
  stops = book.stops;
  over = book.over;
}

-- a snapshot of the books of a server, as octets
pub record IsSnapshot (counts : Counts) (server : ServerSeen) (octets : List ℕ) : Type 0 where
  pub books : List BookSeen
  pub are : map running books ≡ saved_server server
  pub fit : (books_field counts.clients).Fits books
  pub spelled : octets ≡ (books_field counts.clients).spell books

-- the moves of batches, one batch after another
abbrev pub moves_in : List (List Move) → List Move
moves_in batches = flat_map (λ (batch : List Move). batch) batches

-- moves in batches, as octets
pub record AreBatches (counts : Counts) (moves : List Move) (payloads : List (List ℕ)) : Type 0 where
  pub batches : List (List Move)
  pub are : moves ≡ moves_in batches
  pub fit : AllByRecursion (moves_field counts).Fits batches
  pub spelled : payloads ≡ map (moves_field counts).spell batches

-- the payloads of a generation of these accounts that began with these books, with the moves that
-- followed
pub record IsGeneration (config : Configuration) (header : Header) (begun : ServerSeen)
    (moves : List Move) (payloads : List (List ℕ)) : Type 0 where
  pub header_fits : header_field.Fits header
  pub snapshot : List ℕ
  pub snapshot_is : IsSnapshot (counts_of config) begun snapshot
  pub batches : List (List ℕ)
  pub batches_are : AreBatches (counts_of config) moves batches
  pub payloads_are : payloads ≡ front_octets header (octets_of config) ∷ snapshot ∷ batches

-- The payloads of a generation of a history that opened with these books of a configuration: the books
-- that it begins with are what the moves before it make of them. The first history opens with new books.
pub record AreOfHistory (config : Configuration) (opening : ServerSeen) (history : List Move)
    (payloads : List (List ℕ)) : Type 0 where
  pub opening_is : IsServerOf config opening
  pub header : Header
  pub earlier : List Move
  pub moves : List Move
  pub are : history ≡ earlier ++ moves
  pub generation : IsGeneration config header (replay opening earlier) moves payloads

-- a file of a generation
pub record HasGeneration (config : Configuration) (header : Header) (begun : ServerSeen)
    (moves : List Move) (file : List ℕ) : Type 0 where
  pub payloads : List (List ℕ)
  pub has : HasPayloads file payloads
  pub generation : IsGeneration config header begun moves payloads

-- a file that stands for a history
pub record HasHistory (config : Configuration) (opening : ServerSeen) (history : List Move)
    (file : List ℕ) : Type 0 where
  pub payloads : List (List ℕ)
  pub has : HasPayloads file payloads
  pub are : AreOfHistory config opening history payloads

-- a file whose snapshot is not whole: its generation was not begun
pub record IsUnbegun (file : List ℕ) : Type 0 where
  pub payloads : List (List ℕ)
  pub has : HasPayloads file payloads
  pub few : length payloads < 2

-- a file that stands for a history, or for it and an unanswered batch, whole
abbrev pub HasHistoryOr : (config : Configuration) → (opening : ServerSeen)
    → (history unanswered : List Move) → (file : List ℕ) → Type 0
HasHistoryOr config opening history unanswered file =
    HasHistory config opening history file ⊎ HasHistory config opening (history ++ unanswered) file

-- Two files of which the newer counts if its snapshot is whole, and else the older: they stand for
-- a history, or for it and an unanswered batch.
abbrev pub StandForHistory : (config : Configuration) → (opening : ServerSeen)
    → (history unanswered : List Move) → (older newer : List ℕ) → Type 0
StandForHistory config opening history unanswered older newer =
    HasHistory config opening history newer
    ⊎ (IsUnbegun newer × HasHistoryOr config opening history unanswered older)
