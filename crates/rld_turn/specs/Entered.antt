-- The entries of the datagrams of a batch.
use Rattle.std.specs.Prelude.{◌≡◌, ℕ, List, [], ◌∷◌, ◌++◌, length, Option, Some, None, Ok, Err}
use Rattle.rsl_accounts.specs.Configuration.{Configuration, client_number}
use Rattle.rsl_event.specs.Detail.{detail_of}
use Rattle.rsl_event.specs.MeaningKind.{kind_of}
use Rattle.rsl_event.specs.Prepared.{CanReply}
use Rattle.rsl_event.specs.declared.meaning.Meaning.{Meaning}
use Rattle.rsl_event.specs.declared.meaning.Port.{Port}
use Rattle.rsl_event.specs.declared.preparation.Detailed.{Detailed}
use Rattle.rsl_shard.specs.declared.moved.Move.{Move}
use Rattle.rsl_wire.specs.Packet.{Fields, packet_of}
use Rattle.rsl_port.specs.Told.{datagram_of}
use Rattle.rld_turn.specs.Moves.{move_of}
use Rattle.rld_turn.specs.Present.{PeerDatagram, ServiceSeen, meaning_of, origin_of, source_of}
use Rattle.rld_turn.specs.Subject.{subject_of}
use Rattle.rld_turn.specs.Turned.{IsRefused}
use Rattle.rld_turn.specs.declared.origin.Origin.{Origin}
use Rattle.rld_turn.specs.declared.request.Entry.{Entry}
use Rattle.rld_turn.specs.declared.request.Entry.TheVariants.{Dropped, Refused, Bare, Moved}
use Rattle.rld_turn.specs.declared.request.Request.{Request}

-- a request is what was prepared of a datagram of this origin
pub record IsMadeOf (origin : Origin) (octets : List ℕ) (detailed : Detailed) (request : Request)
    : Type 0 where
  pub origin_is : request.origin ≡ origin
  pub octets_are : request.octets.items ≡ octets
  pub client : request.client ≡ detailed.prepared.client
  pub kind : request.kind ≡ kind_of detailed.prepared.meaning
  pub detail : request.detail ≡ detailed.detail
  pub subject : request.subject ≡ subject_of detailed.prepared.meaning
  pub draft : request.draft ≡ record { id = detailed.prepared.packet.id; attributes = [] }

-- an answer can be made to a request: to its client's packet, with the kind of its meaning
pub record CanAnswer (config : Configuration) (request : Request) : Type 0 where
  pub fields : Fields
  pub known : client_number config request.origin.source.address ≡ Some request.client
  pub packet : packet_of request.octets.items ≡ Ok fields
  pub reply : CanReply config request.client fields.attributes request.kind
  pub draft : request.draft ≡ record { id = fields.id; attributes = [] }

-- a datagram is a request, which has a meaning with this move
pub record IsRequest (service : ServiceSeen) (port : Port) (moment : ℕ) (taken : PeerDatagram)
    (moved : Option Move) (request : Request) : Type 0 where
  pub meant : Meaning
  pub is : taken ≡ datagram_of request.origin.peer request.octets.items
  pub origin : request.origin ≡ origin_of service taken.peer
  pub understood : meaning_of service port taken ≡ Ok meant
  pub kind : request.kind ≡ kind_of meant
  pub detail : detail_of service.config port (source_of service taken.peer) taken.octets
      ≡ Some request.detail
  pub subject : request.subject ≡ subject_of meant
  pub move : move_of service.config moment meant ≡ moved
  pub answer : CanAnswer service.config request

-- its move is the last of a batch, at this place
pub record IsLast (place : ℕ) (moved : Move) (old new : List Move) : Type 0 where
  pub at : place ≡ length old
  pub last : new ≡ old ++ moved ∷ []

-- a datagram became this entry of a batch
abbrev pub IsEntered : ServiceSeen → Port → (moment : ℕ) → (taken : PeerDatagram) → Entry
    → (old new : List Move) → Type 0
IsEntered service port moment taken (Dropped origin cause) old new =
    (origin ≡ origin_of service taken.peer) × (meaning_of service port taken ≡ Err cause)
    × (new ≡ old)
IsEntered service port moment taken (Refused origin) old new =
    (origin ≡ origin_of service taken.peer) × IsRefused service port taken × (new ≡ old)
IsEntered service port moment taken (Bare request) old new =
    IsRequest service port moment taken None request × (new ≡ old)
IsEntered service port moment taken (Moved request place) old new =
    (moved : Move) × IsRequest service port moment taken (Some moved) request
    × IsLast place moved old new

-- a move was appended to a batch, at its place, or refused memory
abbrev pub HasPushed : Move → Request → Entry → (old new : List Move) → Type 0
HasPushed moved request (Dropped origin cause) old new = ⊥
HasPushed moved request (Refused origin) old new = (origin ≡ request.origin) × (new ≡ old)
HasPushed moved request (Bare held) old new = ⊥
HasPushed moved request (Moved held place) old new =
    (held ≡ request) × IsLast place moved old new

-- the move of a meaning was appended, if it has one
abbrev pub HasAdded : Configuration → (moment : ℕ) → Meaning → Request → Entry
    → (old new : List Move) → Type 0
HasAdded config moment meant request (Dropped origin cause) old new = ⊥
HasAdded config moment meant request (Refused origin) old new =
    (origin ≡ request.origin) × (new ≡ old)
HasAdded config moment meant request (Bare held) old new =
    (held ≡ request) × (move_of config moment meant ≡ None) × (new ≡ old)
HasAdded config moment meant request (Moved held place) old new =
    (moved : Move) × (held ≡ request) × (move_of config moment meant ≡ Some moved)
    × IsLast place moved old new

-- datagrams became these entries of a batch, one after the other
abbrev pub AreEntered : ServiceSeen → Port → (moment : ℕ) → (taken : List PeerDatagram) → List Entry
    → (old new : List Move) → Type 0
AreEntered service port moment taken [] old new = (taken ≡ []) × (new ≡ old)
AreEntered service port moment taken (entry ∷ entries) old new =
    (one : PeerDatagram) × (others : List PeerDatagram) × (mid : List Move)
    × (taken ≡ one ∷ others)
    × IsEntered service port moment one entry old mid
    × AreEntered service port moment others entries mid new

-- the batch with the datagrams that were taken, if the port reports them
pub record HasGathered (service : ServiceSeen) (port : Port) (moment : ℕ) (Tells : Type 0)
    (old_taken new_taken : List PeerDatagram) (queue : List Entry) (batch : List Move) : Type 0 where
  pub taken : List PeerDatagram
  pub entered : AreEntered service port moment taken queue [] batch
  pub told : Tells → new_taken ≡ old_taken ++ taken
