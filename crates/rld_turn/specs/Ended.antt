-- How the datagrams of a batch end, recorded or not.
use Rattle.std.specs.Prelude.{◌≡◌, ℕ, ◌<◌, List, [], ◌∷◌, length, slice_get, Option, Some, None, Result, Ok, Err}
use Rattle.std.specs.Option.{option_map_or}
use Rattle.rsl_accounts.specs.Configuration.{Configuration}
use Rattle.rsl_event.specs.Answer.{answer_to, said_to}
use Rattle.rsl_event.specs.declared.event.Decision.{Decision}
use Rattle.rsl_event.specs.declared.event.Decision.TheVariants.{Done}
use Rattle.rsl_event.specs.declared.meaning_kind.MeaningKind.{MeaningKind}
use Rattle.rsl_wire.specs.Packet.{Fields, packet_of}
use Rattle.rsl_wire.specs.declared.packet.WireFault.{WireFault}
use Rattle.rsl_port.specs.Told.{datagram_of}
use Rattle.rld_turn.specs.Entered.{CanAnswer}
use Rattle.rld_turn.specs.Told.{IsSentAs, Told, told_of}
use Rattle.rld_turn.specs.Present.{PeerDatagram, ServiceSeen}
use Rattle.rld_turn.specs.declared.end.End.{End}
use Rattle.rld_turn.specs.declared.end.End.TheVariants as ends
use Rattle.rld_turn.specs.declared.request.Entry.{Entry}
use Rattle.rld_turn.specs.declared.request.Entry.TheVariants.{Dropped, Refused, Bare, Moved}
use Rattle.rld_turn.specs.declared.request.Request.{Request}

-- the answer to the packet of a client with a meaning of this kind
abbrev pub answer_if : ServiceSeen → Result Fields WireFault → (client : ℕ) → MeaningKind → Decision
    → List ℕ
answer_if service (Ok fields) client kind decision =
    answer_to service.config service.boot client fields kind decision
answer_if service (Err fault) client kind decision = []

-- the answer to a request, to its peer
abbrev pub reply_of : ServiceSeen → Request → Decision → PeerDatagram
reply_of service request decision =
    datagram_of request.origin.peer
    (answer_if service (packet_of request.octets.items) request.client request.kind decision)

-- the decision at a place
abbrev pub decision_at : List Decision → (place : ℕ) → Decision
decision_at decisions place = option_map_or (λ (d : Decision). d) (slice_get decisions place) Done

-- What is sent for an entry. One with a move is answered only if the batch is recorded.
abbrev pub sent_by : ServiceSeen → Option (List Decision) → Entry → List PeerDatagram
sent_by service decisions (Dropped origin cause) = []
sent_by service decisions (Refused origin) = []
sent_by service decisions (Bare request) = reply_of service request Done ∷ []
sent_by service None (Moved request place) = []
sent_by service (Some decisions) (Moved request place) =
    reply_of service request (decision_at decisions place) ∷ []

-- how an entry ends
abbrev pub IsEndOf : Option (List Decision) → Entry → End → Type 0
IsEndOf decisions (Dropped origin cause) end = end ≡ ends.Dropped cause
IsEndOf decisions (Refused origin) end = end ≡ ends.Refused
IsEndOf decisions (Bare request) end = IsSentAs (said_to request.kind Done) end
IsEndOf None (Moved request place) end = end ≡ ends.Unrecorded
IsEndOf (Some decisions) (Moved request place) end =
    IsSentAs (said_to request.kind (decision_at decisions place)) end

-- what a watcher learns of a request with this end
abbrev pub told_by_request : Configuration → Request → End → Told
told_by_request config request end =
    told_of config request.origin request.octets.items (Some request.detail) (Some request.subject) end

-- what a watcher learns of an entry with this end
abbrev pub told_by : Configuration → Entry → End → Told
told_by config (Dropped origin cause) end = told_of config origin [] None None end
told_by config (Refused origin) end = told_of config origin [] None None end
told_by config (Bare request) end = told_by_request config request end
told_by config (Moved request place) end = told_by_request config request end

-- there is a decision at a place, if the batch is recorded
abbrev pub HasPlace : Option (List Decision) → (place : ℕ) → Type 0
HasPlace None place = Unit {0}
HasPlace (Some decisions) place = place < length decisions

-- an entry can be answered, if it is to be
abbrev pub CanEnd : Configuration → Option (List Decision) → Entry → Type 0
CanEnd config decisions (Dropped origin cause) = Unit {0}
CanEnd config decisions (Refused origin) = Unit {0}
CanEnd config decisions (Bare request) = CanAnswer config request
CanEnd config decisions (Moved request place) = CanAnswer config request × HasPlace decisions place
