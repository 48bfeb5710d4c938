-- What is done with the datagrams of a turn: in the order in which they were taken, each is
-- dropped, refused, unrecorded or answered, and nothing else is recorded or sent.
use Rattle.std.specs.Prelude.{◌≡◌, ℕ, ◌≤◌, Bool, true, false, List, [], ◌∷◌, ◌++◌, length, Ok, Err, Option, Some, None}
use Rattle.rsl_accounts.specs.Configuration.{client_number}
use Rattle.rsl_event.specs.Answer.{answer, said}
use Rattle.rsl_event.specs.Detail.{detail_of}
use Rattle.rsl_event.specs.declared.meaning.Dropped.{Dropped}
use Rattle.rsl_event.specs.declared.meaning.Meaning.{Meaning}
use Rattle.rsl_event.specs.declared.meaning.Port.{Port}
use Rattle.rsl_port.specs.Shown.{HasShown}
use Rattle.rsl_shard.specs.declared.moved.Move.{Move}
use Rattle.rsl_wire.specs.Packet.{Fields, packet_of}
use Rattle.rld_books.specs.Server.{ServerSeen, replay}
use Rattle.rld_store.specs.Recorded.{RecordedSeen}
use Rattle.rld_turn.specs.Moves.{decided, move_of}
use Rattle.rld_turn.specs.Present.{PeerDatagram, ServiceSeen, meaning_of, origin_of, source_of}
use Rattle.rld_turn.specs.Recorded.{IsOf, books_before, is_recorded}
use Rattle.rld_turn.specs.Subject.{subject_in}
use Rattle.rld_turn.specs.Told.{HasTold, IsSentAs, Told, told_of}
use Rattle.rld_turn.specs.declared.end.End.{End}
use Rattle.rld_turn.specs.declared.end.End.TheVariants as ends

-- what a watcher learns of a datagram of which nothing but its origin is kept
abbrev pub bare_told : ServiceSeen → PeerDatagram → End → Told
bare_told service one end = told_of service.config (origin_of service one.peer) [] None None end

-- what a watcher learns of a request
abbrev pub request_told : ServiceSeen → Port → PeerDatagram → End → Told
request_told service port one end =
    told_of service.config (origin_of service one.peer) one.octets
    (detail_of service.config port (source_of service one.peer) one.octets)
    (subject_in (meaning_of service port one)) end

-- a datagram has a meaning, but was refused memory: nothing of it is recorded or sent
pub record IsRefused (service : ServiceSeen) (port : Port) (taken : PeerDatagram) : Type 0 where
  pub meant : Meaning
  pub understood : meaning_of service port taken ≡ Ok meant

-- a datagram has a meaning with this move
pub record IsUnrecorded (service : ServiceSeen) (port : Port) (moment : ℕ) (taken : PeerDatagram)
    (moved : Move) : Type 0 where
  pub meant : Meaning
  pub understood : meaning_of service port taken ≡ Ok meant
  pub move : move_of service.config moment meant ≡ Some moved

-- a datagram has a meaning with this move, or with none, and this is the answer to it, with the
-- decision of these books, to its peer; so it ended
pub record IsAnsweredBy (service : ServiceSeen) (port : Port) (moment : ℕ) (books : ServerSeen)
    (taken : PeerDatagram) (moved : Option Move) (sent : PeerDatagram) (end : End) : Type 0 where
  pub fields : Fields
  pub client : ℕ
  pub meant : Meaning
  pub packet : packet_of taken.octets ≡ Ok fields
  pub known : client_number service.config (source_of service taken.peer).address ≡ Some client
  pub understood : meaning_of service port taken ≡ Ok meant
  pub move : move_of service.config moment meant ≡ moved
  pub peer : sent.peer ≡ taken.peer
  pub octets : sent.octets
      ≡ answer service.config service.boot client fields meant (decided books moved)
  pub ended : IsSentAs (said meant (decided books moved)) end

-- The datagrams of a turn ended so, in the order in which they were taken: each was dropped for the
-- cause why it has no meaning, refused, unrecorded or answered, and the watcher learns its end.
-- These are the moves of the batch, all at one moment, and these are the sends. The batch is
-- recorded or it is not: a datagram with a move is answered only if it is, by the books when the
-- batch began and the moves before its own.
pub data Turned (service : ServiceSeen) (port : Port) (moment : ℕ) (recorded : Bool)
    (begun : ServerSeen)
    : (told : List Told) → (taken : List PeerDatagram) → (batch : List Move) → (sent : List PeerDatagram)
    → Type 0 where
  NoneYet : Turned service port moment recorded begun [] [] [] []
  ThenDropped : {told : List Told} {taken : List PeerDatagram} {batch : List Move} {sent : List PeerDatagram}
      → Turned service port moment recorded begun told taken batch sent
      → (one : PeerDatagram) → (cause : Dropped)
      → meaning_of service port one ≡ Err cause
      → Turned service port moment recorded begun (told ++ bare_told service one (ends.Dropped cause) ∷ []) (taken ++ one ∷ []) batch sent
  ThenRefused : {told : List Told} {taken : List PeerDatagram} {batch : List Move} {sent : List PeerDatagram}
      → Turned service port moment recorded begun told taken batch sent
      → (one : PeerDatagram) → IsRefused service port one
      → Turned service port moment recorded begun (told ++ bare_told service one ends.Refused ∷ []) (taken ++ one ∷ []) batch sent
  ThenUnrecorded : {told : List Told} {taken : List PeerDatagram} {batch : List Move} {sent : List PeerDatagram}
      → Turned service port moment recorded begun told taken batch sent
      → (one : PeerDatagram) → (moved : Move) → recorded ≡ false
      → IsUnrecorded service port moment one moved
      → Turned service port moment recorded begun (told ++ request_told service port one ends.Unrecorded ∷ []) (taken ++ one ∷ []) (batch ++ moved ∷ []) sent
  ThenBare : {told : List Told} {taken : List PeerDatagram} {batch : List Move} {sent : List PeerDatagram}
      → Turned service port moment recorded begun told taken batch sent
      → (one reply : PeerDatagram) → (end : End)
      → IsAnsweredBy service port moment (replay begun batch) one None reply end
      → Turned service port moment recorded begun (told ++ request_told service port one end ∷ []) (taken ++ one ∷ []) batch (sent ++ reply ∷ [])
  ThenAnswered : {told : List Told} {taken : List PeerDatagram} {batch : List Move} {sent : List PeerDatagram}
      → Turned service port moment recorded begun told taken batch sent
      → (one reply : PeerDatagram) → (end : End) → (moved : Move) → recorded ≡ true
      → IsAnsweredBy service port moment (replay begun batch) one (Some moved) reply end
      → Turned service port moment recorded begun (told ++ request_told service port one end ∷ []) (taken ++ one ∷ []) (batch ++ moved ∷ []) (sent ++ reply ∷ [])

-- the state at a time: the datagrams taken, the sends tried, and the moments that the clock has
-- shown, if it reports them
pub record State : Type 0 where
  pub taken : List PeerDatagram
  pub sent : List PeerDatagram
  pub shown : Option (List ℕ)

abbrev pub state_of : (taken sent : List PeerDatagram) → (shown : Option (List ℕ)) → State
state_of taken sent shown = record { taken = taken; sent = sent; shown = shown }

-- A turn by what it gives as recorded, whatever its port and its recorder are: the clock is read
-- once, and at most 64 datagrams ended so, as the watcher has learned. What was recorded is the batch
-- with the moves of these datagrams, in order. A datagram with a move is answered only if it is
-- recorded, by the books before the batch and the moves before its own. They are what was taken
-- since, and what was sent for them, if the port reports that.
pub record IsDecidedBy (service : ServiceSeen) (port : Port) (Tells : Type 0)
    (recorded : Option RecordedSeen) (old new : State) (knew knows : List Told → Type 0) : Type 0 where
  pub taken : List PeerDatagram
  pub batch : List Move
  pub sent : List PeerDatagram
  pub told : List Told
  pub moment : ℕ
  pub few : length taken ≤ 64
  pub more_taken : Tells → new.taken ≡ old.taken ++ taken
  pub more_sent : Tells → new.sent ≡ old.sent ++ sent
  pub more_shown : HasShown (moment ∷ []) old.shown new.shown
  pub more_told : HasTold told knew knows
  pub whole : IsOf batch recorded
  pub turned : Turned service port moment (is_recorded recorded) (books_before recorded)
      told taken batch sent
