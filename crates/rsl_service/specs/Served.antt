-- What is done with the datagrams that come to a port of a service, one after the other: each is
-- dropped, refused or answered, and nothing else is noted or sent.
use Rattle.std.specs.Prelude.{◌≡◌, ℕ, ◌+◌, ◌<◌, ◌⊎◌, List, [], ◌∷◌, ◌++◌, Ok, Err, Option, Some}
use Rattle.rsl_accounts.specs.Configuration.{client_number}
use Rattle.rsl_event.specs.Answer.{answer}
use Rattle.rsl_event.specs.Meaning.{meaning}
use Rattle.rsl_event.specs.declared.event.Decision.{Decision}
use Rattle.rsl_event.specs.declared.meaning.Dropped.{Dropped}
use Rattle.rsl_event.specs.declared.meaning.Meaning.{Meaning}
use Rattle.rsl_event.specs.declared.meaning.Meaning.TheVariants.{Restart}
use Rattle.rsl_event.specs.declared.meaning.Port.{Port}
use Rattle.rsl_event.specs.declared.event.Source.{Source}
use Rattle.rsl_service.specs.Applied.{HasDecided}
use Rattle.rsl_service.specs.Receipts.{AreNoted}
use Rattle.rsl_service.specs.Service.{ServiceSeen}
use Rattle.rsl_record.specs.declared.receipt.Receipt.{Receipt}
use Rattle.rsl_shard.specs.declared.moved.Move.TheVariants as moves
use Rattle.rsl_wire.specs.Packet.{Fields, packet_of}
use Rattle.rsl_service.specs.declared.counts.Counts.{Counts}
use Rattle.rsl_port.specs.declared.datagram_port.Datagram.{Datagram}
use Rattle.rsl_port.specs.Shown.{HasShown}

-- a datagram has no meaning, for this cause
pub record IsDropped (service : ServiceSeen) (port : Port) (taken : Datagram Source) : Type 0 where
  pub cause : Dropped
  pub named : meaning service.config service.boot port taken.peer taken.octets ≡ Err cause

-- what an unanswered datagram leaves, at a moment: a restart leaves sweeps of the first shards,
-- fewer than all; another leaves nothing
abbrev pub HasStopped : ServiceSeen → (moment : ℕ) → Meaning → (old new : List Receipt) → Type 0
HasStopped service moment (Restart nas delay) old new =
    (swept : ℕ) × (swept < service.config.settings.shards)
    × AreNoted swept (moves.Sweep moment nas delay) old new
HasStopped service moment _ old new = new ≡ old

-- a datagram has a meaning, and was not answered: before the clock showed a moment for its moves,
-- or at the moment that it showed
pub record IsRefused (service : ServiceSeen) (port : Port) (taken : Datagram Source) (shown : List ℕ)
    (old new : List Receipt) : Type 0 where
  pub meant : Meaning
  pub understood : meaning service.config service.boot port taken.peer taken.octets ≡ Ok meant
  pub stopped : ((shown ≡ []) × (new ≡ old))
      ⊎ ((moment : ℕ) × (shown ≡ moment ∷ []) × HasStopped service moment meant old new)

-- a datagram made its moves at the moment that the clock showed, and this is the answer to them, to
-- its source
pub record IsAnsweredBy (service : ServiceSeen) (port : Port) (taken : Datagram Source) (moment : ℕ)
    (old new : List Receipt) (sent : Datagram Source) : Type 0 where
  pub fields : Fields
  pub client : ℕ
  pub meant : Meaning
  pub decision : Decision
  pub packet : packet_of taken.octets ≡ Ok fields
  pub known : client_number service.config taken.peer.address ≡ Some client
  pub understood : meaning service.config service.boot port taken.peer taken.octets ≡ Ok meant
  pub decided : HasDecided service moment meant decision old new
  pub source : sent.peer ≡ taken.peer
  pub octets : sent.octets
      ≡ answer service.config service.boot client fields meant decision

-- Of the datagrams `dropped` were dropped, `refused` refused and `answered` answered, in the order
-- in which they came; the earlier receipts have become these, these are the sends, and the clock
-- showed these moments.
pub data Served (service : ServiceSeen) (port : Port) (old : List Receipt)
    : (dropped refused answered : ℕ) → (taken : List (Datagram Source)) → (new : List Receipt)
    → (sent : List (Datagram Source)) → (shown : List ℕ) → Type 0 where
  NoneYet : Served service port old 0 0 0 [] old [] []
  ThenDropped : {d r a : ℕ} {taken : List (Datagram Source)} {new : List Receipt} {sent : List (Datagram Source)} {shown : List ℕ}
      → Served service port old d r a taken new sent shown
      → (one : Datagram Source) → IsDropped service port one
      → Served service port old (d + 1) r a (taken ++ one ∷ []) new sent shown
  ThenRefused : {d r a : ℕ} {taken : List (Datagram Source)} {before new : List Receipt} {sent : List (Datagram Source)} {shown : List ℕ}
      → Served service port old d r a taken before sent shown
      → (one : Datagram Source) → (then : List ℕ) → IsRefused service port one then before new
      → Served service port old d (r + 1) a (taken ++ one ∷ []) new sent (shown ++ then)
  ThenAnswered : {d r a : ℕ} {taken : List (Datagram Source)} {before new : List Receipt} {sent : List (Datagram Source)} {shown : List ℕ}
      → Served service port old d r a taken before sent shown
      → (one reply : Datagram Source) → (moment : ℕ) → IsAnsweredBy service port one moment before new reply
      → Served service port old d r (a + 1) (taken ++ one ∷ []) new (sent ++ reply ∷ []) (shown ++ moment ∷ [])

-- the state at a time: the datagrams taken, the receipts, the sends tried, and the moments that the
-- clock has shown, if it reports them
pub record State : Type 0 where
  pub taken : List (Datagram Source)
  pub receipts : List Receipt
  pub sent : List (Datagram Source)
  pub shown : Option (List ℕ)

abbrev pub state_of : (taken : List (Datagram Source)) → List Receipt → (sent : List (Datagram Source))
    → (shown : Option (List ℕ)) → State
state_of taken receipts sent shown = record { taken = taken; receipts = receipts; sent = sent; shown = shown }

-- these counts are of what was served: of the datagrams taken since, with the receipts, the sends
-- and the moments since
pub record HasServed (service : ServiceSeen) (port : Port) (counts : Counts) (old new : State)
    : Type 0 where
  pub taken : List (Datagram Source)
  pub sent : List (Datagram Source)
  pub shown : List ℕ
  pub more_taken : new.taken ≡ old.taken ++ taken
  pub more_sent : new.sent ≡ old.sent ++ sent
  pub more_shown : HasShown shown old.shown new.shown
  pub served : Served service port old.receipts
      counts.dropped counts.refused (counts.answered + counts.unsent) taken new.receipts sent shown
