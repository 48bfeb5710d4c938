-- Gates, causes, and fates: a cause at a gate. The words of a cause stand in the table of the code alone.
use Rattle.std.specs.Prelude.{ℕ, ◌+◌, ◌*◌, Bool, true, false, List, [], codes, slice_get}
use Rattle.std.specs.Option.{option_map_or}
use Rattle.rsl_event.specs.declared.meaning.Port.{Port}
use Rattle.rsl_event.specs.declared.meaning.Port.TheVariants as ports
use Rattle.rld_counts.specs.declared.cause.Cause.{Cause}
use Rattle.rld_counts.specs.declared.cause.Cause.TheVariants as causes
use Rattle.rld_counts.specs.declared.cause.TheConstants.{CAUSES, TABLE}
use Rattle.rld_counts.specs.declared.fate.Fate.{Fate}
use Rattle.rld_counts.specs.declared.gate.Gate.{Gate}
use Rattle.rld_counts.specs.declared.gate.Gate.TheVariants as gates
use Rattle.rld_counts.specs.declared.gate.TheConstants.{ACCT_CAUSES, ASK_CAUSES, AUTH_CAUSES}
use Rattle.rld_counts.specs.declared.kind.Kind.{Kind}
use Rattle.rld_counts.specs.declared.kind.Kind.TheVariants as kinds

-- ---- gates

abbrev pub gate_of : Port → Gate
gate_of ports.Auth = gates.Auth
gate_of ports.Acct = gates.Acct

-- the port of what comes to a gate: an ask is a request of the authentication port
abbrev pub port_of : Gate → Port
port_of gates.Auth = ports.Auth
port_of gates.Acct = ports.Acct
port_of gates.Ask = ports.Auth

abbrev pub gate_number : Gate → ℕ
gate_number gates.Auth = 0
gate_number gates.Acct = 1
gate_number gates.Ask = 2

abbrev pub word_of : Gate → List ℕ
word_of gates.Auth = codes "auth"
word_of gates.Acct = codes "acct"
word_of gates.Ask = codes "ask_http"

-- the causes for which what comes to a gate ends
abbrev pub causes_at : Gate → List Cause
causes_at gates.Auth = AUTH_CAUSES.now
causes_at gates.Acct = ACCT_CAUSES.now
causes_at gates.Ask = ASK_CAUSES.now

abbrev pub is_same_gate : Gate → Gate → Bool
is_same_gate gates.Auth gates.Auth = true
is_same_gate gates.Acct gates.Acct = true
is_same_gate gates.Ask gates.Ask = true
is_same_gate gates.Auth gates.Acct = false
is_same_gate gates.Auth gates.Ask = false
is_same_gate gates.Acct gates.Auth = false
is_same_gate gates.Acct gates.Ask = false
is_same_gate gates.Ask gates.Auth = false
is_same_gate gates.Ask gates.Acct = false

-- ---- causes

-- the place of a cause in the table
abbrev pub number_of : Cause → ℕ
number_of causes.Short = 0
number_of causes.BadLength = 1
number_of causes.UnknownClient = 2
number_of causes.WrongCode = 3
number_of causes.BadSignature = 4
number_of causes.Unsigned = 5
number_of causes.UnsignedProxy = 6
number_of causes.BadAuthenticator = 7
number_of causes.Malformed = 8
number_of causes.ProxyTooLong = 9
number_of causes.NoStatus = 10
number_of causes.NoSession = 11
number_of causes.Unauthorized = 12
number_of causes.BadRequest = 13
number_of causes.Refused = 14
number_of causes.Unrecorded = 15
number_of causes.Unsent = 16
number_of causes.Unserved = 17
number_of causes.Accept = 18
number_of causes.LimitReject = 19
number_of causes.MalformedReject = 20
number_of causes.NotOneName = 21
number_of causes.NotOnePassword = 22
number_of causes.SeveralChallenges = 23
number_of causes.UnknownAccount = 24
number_of causes.WrongPassword = 25
number_of causes.DisabledAccount = 26
number_of causes.NoPassword = 27
number_of causes.UncheckedCredential = 28
number_of causes.Start = 29
number_of causes.Stop = 30
number_of causes.InterimUpdate = 31
number_of causes.AccountingOn = 32
number_of causes.AccountingOff = 33
number_of causes.OtherStatus = 34
number_of causes.StartUnknown = 35
number_of causes.StopUnknown = 36
number_of causes.InterimUpdateUnknown = 37

-- what became of the datagram
unfoldable pub kind_of : Cause → Kind
kind_of causes.Short = kinds.Dropped
kind_of causes.BadLength = kinds.Dropped
kind_of causes.UnknownClient = kinds.Dropped
kind_of causes.WrongCode = kinds.Dropped
kind_of causes.BadSignature = kinds.Dropped
kind_of causes.Unsigned = kinds.Dropped
kind_of causes.UnsignedProxy = kinds.Dropped
kind_of causes.BadAuthenticator = kinds.Dropped
kind_of causes.Malformed = kinds.Dropped
kind_of causes.ProxyTooLong = kinds.Dropped
kind_of causes.NoStatus = kinds.Dropped
kind_of causes.NoSession = kinds.Dropped
kind_of causes.Unauthorized = kinds.Dropped
kind_of causes.BadRequest = kinds.Dropped
kind_of causes.Refused = kinds.Failed
kind_of causes.Unrecorded = kinds.Failed
kind_of causes.Unsent = kinds.Failed
kind_of causes.Unserved = kinds.Failed
kind_of causes.Accept = kinds.Accepted
kind_of causes.LimitReject = kinds.LimitRejected
kind_of causes.MalformedReject = kinds.Rejected
kind_of causes.NotOneName = kinds.Rejected
kind_of causes.NotOnePassword = kinds.Rejected
kind_of causes.SeveralChallenges = kinds.Rejected
kind_of causes.UnknownAccount = kinds.Rejected
kind_of causes.WrongPassword = kinds.Rejected
kind_of causes.DisabledAccount = kinds.Rejected
kind_of causes.NoPassword = kinds.Rejected
kind_of causes.UncheckedCredential = kinds.Rejected
kind_of causes.Start = kinds.Accounted
kind_of causes.Stop = kinds.Accounted
kind_of causes.InterimUpdate = kinds.Accounted
kind_of causes.AccountingOn = kinds.Accounted
kind_of causes.AccountingOff = kinds.Accounted
kind_of causes.OtherStatus = kinds.Accounted
kind_of causes.StartUnknown = kinds.NoAccount
kind_of causes.StopUnknown = kinds.NoAccount
kind_of causes.InterimUpdateUnknown = kinds.NoAccount

-- its word and its words are those of its row
unfoldable pub name_of : Cause → List ℕ
name_of cause = option_map_or (λ row. row.2.now) (slice_get TABLE.now (number_of cause)) []

unfoldable pub words_of : Cause → List ℕ
words_of cause = option_map_or (λ row. row.3.now) (slice_get TABLE.now (number_of cause)) []

-- whether an answer was sent
abbrev pub is_answer : Kind → Bool
is_answer kinds.Accepted = true
is_answer kinds.LimitRejected = true
is_answer kinds.Rejected = true
is_answer kinds.Accounted = true
is_answer kinds.NoAccount = true
is_answer kinds.Dropped = false
is_answer kinds.Failed = false

-- ---- fates

-- a cause at a gate
abbrev pub at : Gate → Cause → Fate
at gate cause = record { gate = gate; cause = cause }

-- the causes of each gate have numbers of their own
abbrev pub fate_number : Fate → ℕ
fate_number fate = gate_number fate.gate * CAUSES + number_of fate.cause
