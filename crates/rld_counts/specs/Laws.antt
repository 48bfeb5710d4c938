-- What a count says of the datagrams counted there, by their meaning.
use Rattle.std.specs.Prelude.{◌≡◌, ◌==◌, ◌||◌, ℕ, ⊤, Bool, true, false, List, [], ◌∷◌, Option, Some, None, Ok, Err}
use Rattle.rsl_event.specs.Detail.{detail_of}
use Rattle.rsl_event.specs.Laws.{cause_in}
use Rattle.rsl_event.specs.declared.detail.Detail.{Detail}
use Rattle.rsl_event.specs.declared.detail.RejectCause.{RejectCause}
use Rattle.rsl_event.specs.declared.detail.RejectCause.TheVariants as rejects
use Rattle.rsl_event.specs.declared.event.Act.TheVariants as acts
use Rattle.rsl_event.specs.declared.event.Key.{Key}
use Rattle.rsl_event.specs.declared.meaning.Dropped.{Dropped}
use Rattle.rsl_event.specs.declared.meaning.Dropped.TheVariants as drops
use Rattle.rsl_event.specs.declared.meaning.Meaning.{Meaning}
use Rattle.rsl_event.specs.declared.meaning.Meaning.TheVariants.{Bare, Reject, Own, Stray}
use Rattle.rsl_event.specs.declared.meaning.Note.{Note}
use Rattle.rsl_event.specs.declared.meaning.Port.{Port}
use Rattle.rsl_event.specs.declared.meaning.Port.TheVariants as ports
use Rattle.rsl_event.specs.declared.nas.Nas.{Nas}
use Rattle.rsl_event.specs.declared.status.Status.{Status}
use Rattle.rsl_event.specs.declared.status.Status.TheVariants as statuses
use Rattle.rld_books.specs.Server.{ServerSeen}
use Rattle.rsl_shard.specs.declared.moved.Move.{Move}
use Rattle.rld_counts.specs.Ending.{fate_of, is_nobody, status_in}
use Rattle.rld_counts.specs.Fates.{causes_at, number_of, port_of}
use Rattle.rld_counts.specs.declared.cause.Cause.{Cause}
use Rattle.rld_counts.specs.declared.cause.Cause.TheVariants as causes
use Rattle.rld_counts.specs.declared.fate.Fate.{Fate}
use Rattle.rld_counts.specs.declared.gate.Gate.{Gate}
use Rattle.rld_counts.specs.declared.gate.Gate.TheVariants as gates
use Rattle.rld_turn.specs.Told.{Told}
use Rattle.rld_turn.specs.Present.{PeerDatagram, ServiceSeen, meaning_of, source_of}
use Rattle.rld_turn.specs.Subject.{subject_in}
use Rattle.rld_turn.specs.Turned.{Turned}

-- a datagram has no meaning at a port, for this cause
abbrev pub IsDroppedBy : ServiceSeen → Port → PeerDatagram → Dropped → Type 0
IsDroppedBy service port one cause = meaning_of service port one ≡ Err cause

-- a datagram means this at a port
abbrev pub Means : ServiceSeen → Port → PeerDatagram → Meaning → Type 0
Means service port one meant = meaning_of service port one ≡ Ok meant

-- the detail of a datagram at a port
abbrev pub detail_at : ServiceSeen → Port → PeerDatagram → Option Detail
detail_at service port one =
    detail_of service.config port (source_of service one.peer) one.octets

-- a datagram has a meaning at a port
pub record HasMeaning (service : ServiceSeen) (port : Port) (one : PeerDatagram) : Type 0 where
  pub meant : Meaning
  pub means : Means service port one meant

-- a datagram asks for an account with the right password
pub record Asks (service : ServiceSeen) (one : PeerDatagram) : Type 0 where
  pub account : ℕ
  pub key : Key
  pub nas : Nas
  pub station : Option (List ℕ)
  pub means : Means service ports.Auth one (Own account (acts.Ask key nas station))

-- a datagram is well formed, and rejected for this cause
pub record IsRejectedFor (service : ServiceSeen) (one : PeerDatagram) (cause : RejectCause) : Type 0 where
  pub means : Means service ports.Auth one Reject
  pub is_cause : cause_in (detail_at service ports.Auth one) ≡ Some cause

-- a datagram is an accounting request of this status
pub record HasStatus (service : ServiceSeen) (one : PeerDatagram) (status : Option Status) : Type 0 where
  pub meaning : HasMeaning service ports.Acct one
  pub is_status : status_in (detail_at service ports.Acct one) ≡ status

-- it is of this status, and stands for somebody
pub record IsOfSome (service : ServiceSeen) (one : PeerDatagram) (status : Status) : Type 0 where
  pub has_status : HasStatus service one (Some status)
  pub is_known : is_nobody (subject_in (meaning_of service ports.Acct one)) ≡ false

-- it is of this status, and stray: no account has its User-Name
pub record IsOfNone (service : ServiceSeen) (one : PeerDatagram) (status : Status) : Type 0 where
  pub note : Note
  pub means : Means service ports.Acct one (Stray note)
  pub is_status : status_in (detail_at service ports.Acct one) ≡ Some status

-- what a cause at the authentication port says of a datagram; no datagram ends there for another
abbrev pub AuthSays : ServiceSeen → PeerDatagram → Cause → Type 0
AuthSays service one causes.Short = IsDroppedBy service ports.Auth one drops.Short
AuthSays service one causes.BadLength = IsDroppedBy service ports.Auth one drops.BadLength
AuthSays service one causes.UnknownClient = IsDroppedBy service ports.Auth one drops.UnknownClient
AuthSays service one causes.WrongCode = IsDroppedBy service ports.Auth one drops.WrongCode
AuthSays service one causes.BadSignature = IsDroppedBy service ports.Auth one drops.BadSignature
AuthSays service one causes.Unsigned = IsDroppedBy service ports.Auth one drops.Unsigned
AuthSays service one causes.UnsignedProxy = IsDroppedBy service ports.Auth one drops.UnsignedProxy
AuthSays service one causes.ProxyTooLong = IsDroppedBy service ports.Auth one drops.ProxyTooLong
AuthSays service one causes.Refused = HasMeaning service ports.Auth one
AuthSays service one causes.Unrecorded = HasMeaning service ports.Auth one
AuthSays service one causes.Unsent = HasMeaning service ports.Auth one
AuthSays service one causes.Accept = Asks service one
AuthSays service one causes.LimitReject = Asks service one
AuthSays service one causes.MalformedReject = Means service ports.Auth one Bare
AuthSays service one causes.NotOneName = IsRejectedFor service one rejects.NotOneName
AuthSays service one causes.NotOnePassword = IsRejectedFor service one rejects.NotOnePassword
AuthSays service one causes.SeveralChallenges = IsRejectedFor service one rejects.SeveralChallenges
AuthSays service one causes.UnknownAccount = IsRejectedFor service one rejects.UnknownAccount
AuthSays service one causes.WrongPassword = IsRejectedFor service one rejects.WrongPassword
AuthSays service one causes.DisabledAccount = IsRejectedFor service one rejects.DisabledAccount
AuthSays service one causes.NoPassword = IsRejectedFor service one rejects.NoPassword
AuthSays service one causes.UncheckedCredential = IsRejectedFor service one rejects.UncheckedCredential
AuthSays service one _ = ⊥

-- and one at the accounting port
abbrev pub AcctSays : ServiceSeen → PeerDatagram → Cause → Type 0
AcctSays service one causes.Short = IsDroppedBy service ports.Acct one drops.Short
AcctSays service one causes.BadLength = IsDroppedBy service ports.Acct one drops.BadLength
AcctSays service one causes.UnknownClient = IsDroppedBy service ports.Acct one drops.UnknownClient
AcctSays service one causes.WrongCode = IsDroppedBy service ports.Acct one drops.WrongCode
AcctSays service one causes.BadAuthenticator = IsDroppedBy service ports.Acct one drops.BadAuthenticator
AcctSays service one causes.Malformed = IsDroppedBy service ports.Acct one drops.Malformed
AcctSays service one causes.ProxyTooLong = IsDroppedBy service ports.Acct one drops.ProxyTooLong
AcctSays service one causes.NoStatus = IsDroppedBy service ports.Acct one drops.NoStatus
AcctSays service one causes.NoSession = IsDroppedBy service ports.Acct one drops.NoSession
AcctSays service one causes.Refused = HasMeaning service ports.Acct one
AcctSays service one causes.Unrecorded = HasMeaning service ports.Acct one
AcctSays service one causes.Unsent = HasMeaning service ports.Acct one
AcctSays service one causes.Start = IsOfSome service one statuses.Start
AcctSays service one causes.Stop = IsOfSome service one statuses.Stop
AcctSays service one causes.InterimUpdate = IsOfSome service one statuses.InterimUpdate
AcctSays service one causes.AccountingOn = HasStatus service one (Some statuses.AccountingOn)
AcctSays service one causes.AccountingOff = HasStatus service one (Some statuses.AccountingOff)
AcctSays service one causes.OtherStatus = HasStatus service one None
AcctSays service one causes.StartUnknown = IsOfNone service one statuses.Start
AcctSays service one causes.StopUnknown = IsOfNone service one statuses.Stop
AcctSays service one causes.InterimUpdateUnknown = IsOfNone service one statuses.InterimUpdate
AcctSays service one _ = ⊥

-- and one of an ask, of its request: one that is not served says nothing
abbrev pub AskSays : ServiceSeen → PeerDatagram → Cause → Type 0
AskSays service one causes.Refused = AuthSays service one causes.Refused
AskSays service one causes.Unrecorded = AuthSays service one causes.Unrecorded
AskSays service one causes.Unsent = AuthSays service one causes.Unsent
AskSays service one causes.Accept = AuthSays service one causes.Accept
AskSays service one causes.LimitReject = AuthSays service one causes.LimitReject
AskSays service one causes.UnknownAccount = AuthSays service one causes.UnknownAccount
AskSays service one causes.DisabledAccount = AuthSays service one causes.DisabledAccount
AskSays service one causes.Unserved = ⊤
AskSays service one _ = ⊥

abbrev pub SaysAt : ServiceSeen → Gate → PeerDatagram → Cause → Type 0
SaysAt service gates.Auth one cause = AuthSays service one cause
SaysAt service gates.Acct one cause = AcctSays service one cause
SaysAt service gates.Ask one cause = AskSays service one cause

-- what a fate says of a datagram
abbrev pub Says : ServiceSeen → PeerDatagram → Fate → Type 0
Says service one fate = SaysAt service fate.gate one fate.cause

-- each of these datagrams has a fate, from what a watcher learns of it, which is true of it
abbrev pub HaveFates : ServiceSeen → Gate → (told : List Told) → (taken : List PeerDatagram) → Type 0
HaveFates service gate [] [] = ⊤
HaveFates service gate (told ∷ more) (one ∷ taken) =
    Says service one (fate_of gate told) × HaveFates service gate more taken
HaveFates service gate _ _ = ⊥

-- that holds for the datagrams of each turn
abbrev pub FatesAreTrue : Type 0
FatesAreTrue =
    (service : ServiceSeen) (gate : Gate) (moment : ℕ) (recorded : Bool) (begun : ServerSeen)
    (told : List Told) (taken : List PeerDatagram) (batch : List Move) (sent : List PeerDatagram)
    → Turned service (port_of gate) moment recorded begun told taken batch sent
    → HaveFates service gate told taken

-- ---- what is told at a gate

-- whether a cause is among these
abbrev pub is_among : Cause → List Cause → Bool
is_among cause [] = false
is_among cause (one ∷ more) = number_of one == number_of cause || is_among cause more

-- each cause that says something of a datagram at a gate is told there
abbrev pub CausesAreTold : Type 0
CausesAreTold =
    (service : ServiceSeen) (gate : Gate) (one : PeerDatagram) (cause : Cause)
    → SaysAt service gate one cause → is_among cause (causes_at gate) ≡ true
