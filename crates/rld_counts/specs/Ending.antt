-- How a datagram ended, from what a watcher learns of it.
use Rattle.std.specs.Prelude.{Bool, true, false, if◌then◌else◌, Option, Some, None}
use Rattle.rsl_event.specs.Laws.{cause_in}
use Rattle.rsl_event.specs.declared.detail.Detail.{Detail}
use Rattle.rsl_event.specs.declared.detail.Detail.TheVariants.{Asks, Rejected, Accounting}
use Rattle.rsl_event.specs.declared.detail.RejectCause.{RejectCause}
use Rattle.rsl_event.specs.declared.detail.RejectCause.TheVariants as rejects
use Rattle.rsl_event.specs.declared.meaning.Dropped.{Dropped}
use Rattle.rsl_event.specs.declared.meaning.Dropped.TheVariants as drops
use Rattle.rsl_event.specs.declared.status.Status.{Status}
use Rattle.rsl_event.specs.declared.status.Status.TheVariants as statuses
use Rattle.rsl_event.specs.declared.words.Said.{Said}
use Rattle.rsl_event.specs.declared.words.Said.TheVariants as words
use Rattle.rld_counts.specs.Fates.{at}
use Rattle.rld_counts.specs.declared.cause.Cause.{Cause}
use Rattle.rld_counts.specs.declared.cause.Cause.TheVariants as causes
use Rattle.rld_counts.specs.declared.fate.Fate.{Fate}
use Rattle.rld_counts.specs.declared.gate.Gate.{Gate}
use Rattle.rld_counts.specs.declared.gate.Gate.TheVariants as gates
use Rattle.rld_turn.specs.Told.{Told}
use Rattle.rld_turn.specs.declared.end.End.{End}
use Rattle.rld_turn.specs.declared.end.End.TheVariants as ends
use Rattle.rld_turn.specs.declared.subject.Subject.{Subject}
use Rattle.rld_turn.specs.declared.subject.Subject.TheVariants as subjects

abbrev pub drop_cause : Dropped → Cause
drop_cause drops.Short = causes.Short
drop_cause drops.BadLength = causes.BadLength
drop_cause drops.UnknownClient = causes.UnknownClient
drop_cause drops.WrongCode = causes.WrongCode
drop_cause drops.BadSignature = causes.BadSignature
drop_cause drops.Unsigned = causes.Unsigned
drop_cause drops.UnsignedProxy = causes.UnsignedProxy
drop_cause drops.ProxyTooLong = causes.ProxyTooLong
drop_cause drops.BadAuthenticator = causes.BadAuthenticator
drop_cause drops.Malformed = causes.Malformed
drop_cause drops.NoStatus = causes.NoStatus
drop_cause drops.NoSession = causes.NoSession
drop_cause drops.NoMemory = causes.Refused

-- a reject that does not concern places: each has a cause
abbrev pub reject_cause : Option RejectCause → Cause
reject_cause (Some rejects.Malformed) = causes.MalformedReject
reject_cause (Some rejects.NotOneName) = causes.NotOneName
reject_cause (Some rejects.NotOnePassword) = causes.NotOnePassword
reject_cause (Some rejects.SeveralChallenges) = causes.SeveralChallenges
reject_cause (Some rejects.UnknownAccount) = causes.UnknownAccount
reject_cause (Some rejects.WrongPassword) = causes.WrongPassword
reject_cause (Some rejects.DisabledAccount) = causes.DisabledAccount
reject_cause (Some rejects.NoPassword) = causes.NoPassword
reject_cause (Some rejects.UncheckedCredential) = causes.UncheckedCredential
reject_cause None = causes.Unserved

-- one that concerns nobody: if it is of a session, no account has its User-Name
abbrev pub is_nobody : Option Subject → Bool
is_nobody (Some subjects.Nobody) = true
is_nobody (Some subjects.Account) = false
is_nobody (Some subjects.AccessServer) = false
is_nobody None = false

-- an answer to a request of a status, or of an unknown one, by whom it concerns
abbrev pub account_cause : Option Status → Option Subject → Cause
account_cause (Some statuses.Start) subject = if is_nobody subject then causes.StartUnknown else causes.Start
account_cause (Some statuses.Stop) subject = if is_nobody subject then causes.StopUnknown else causes.Stop
account_cause (Some statuses.InterimUpdate) subject =
    if is_nobody subject then causes.InterimUpdateUnknown else causes.InterimUpdate
account_cause (Some statuses.AccountingOn) subject = causes.AccountingOn
account_cause (Some statuses.AccountingOff) subject = causes.AccountingOff
account_cause None subject = causes.OtherStatus

-- the status in a detail
abbrev pub status_in : Option Detail → Option Status
status_in (Some (Accounting status)) = status
status_in (Some Asks) = None
status_in (Some (Rejected cause)) = None
status_in None = None

-- an answer that was sent to a request, by what was read of it
abbrev pub answer_cause : (cause : Option RejectCause) → Option Status → Option Subject → Said → Cause
answer_cause cause status subject (words.Accept number) = causes.Accept
answer_cause cause status subject words.LimitReject = causes.LimitReject
answer_cause cause status subject words.Reject = reject_cause cause
answer_cause cause status subject words.Account = account_cause status subject

abbrev pub cause_by : Option Detail → Option Subject → End → Cause
cause_by detail subject (ends.Dropped dropped) = drop_cause dropped
cause_by detail subject ends.Refused = causes.Refused
cause_by detail subject ends.Unrecorded = causes.Unrecorded
cause_by detail subject (ends.Answered said) = answer_cause (cause_in detail) (status_in detail) subject said
cause_by detail subject (ends.Unsent said) = causes.Unsent

-- why a datagram ended as it did
abbrev pub cause_of : Told → Cause
cause_of told = cause_by told.detail told.subject told.end

-- of an ask: what is none of an ask is one that is not served
abbrev pub ask_cause : Cause → Cause
ask_cause causes.Refused = causes.Refused
ask_cause causes.Unrecorded = causes.Unrecorded
ask_cause causes.Unsent = causes.Unsent
ask_cause causes.Accept = causes.Accept
ask_cause causes.LimitReject = causes.LimitReject
ask_cause causes.UnknownAccount = causes.UnknownAccount
ask_cause causes.DisabledAccount = causes.DisabledAccount
ask_cause _ = causes.Unserved

-- how a datagram that came to a gate ended, from what a watcher learns of it
abbrev pub fate_of : Gate → Told → Fate
fate_of gates.Auth told = at gates.Auth (cause_of told)
fate_of gates.Acct told = at gates.Acct (cause_of told)
fate_of gates.Ask told = at gates.Ask (ask_cause (cause_of told))
