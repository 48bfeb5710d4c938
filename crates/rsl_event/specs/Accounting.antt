-- The meaning of an Accounting-Request (RFC 2866 section 4.1).
use Rattle.std.specs.Prelude.{ℕ, ◌==◌, ◌&&◌, nat_lt, List, [], ◌∷◌, length, take, drop, if◌then◌else◌, unwrap_or, Option, Some, None, Result, Ok, Err}
use Rattle.std.specs.Int.{w64, from_be_bytes}
use Rattle.std.specs.Option.{option_or}
use Rattle.rsl_accounts.specs.Configuration.{Configuration}
use Rattle.rsl_auth.specs.Authenticator.{is_accounting_authentic}
use Rattle.rsl_wire.specs.Attributes.{Attribute, first_of, number_in, attribute_list}
use Rattle.rsl_wire.specs.Packet.{Fields, packet_octets}
use Rattle.rsl_event.specs.Signature.{rule_of}
use Rattle.rsl_event.specs.Request.{access_server_of, named_account, proxy_len, secret_of, text_of, most_proxy_len}
use Rattle.rsl_event.specs.Station.{station_in}
use Rattle.rsl_event.specs.Status.{status_number, status_of}
use Rattle.rsl_event.specs.declared.event.Act.{Act}
use Rattle.rsl_event.specs.declared.event.Act.TheVariants.{Alive, Stop}
use Rattle.rsl_event.specs.declared.meaning.Note.{Note}
use Rattle.rsl_event.specs.declared.meaning.Meaning.{Meaning}
use Rattle.rsl_event.specs.declared.meaning.Meaning.TheVariants.{Own, Restart, Stray}
use Rattle.rsl_event.specs.declared.meaning.Dropped.{Dropped}
use Rattle.rsl_event.specs.declared.meaning.Dropped.TheVariants.{WrongCode, BadAuthenticator, Malformed, ProxyTooLong, NoStatus, NoSession}
use Rattle.rsl_event.specs.declared.status.Status.{Status}
use Rattle.rsl_event.specs.declared.status.Status.TheVariants as statuses
use Rattle.rsl_event.specs.declared.codes.TheConstants.{ACCOUNTING_REQUEST, USER_NAME, CLASS, CLASS_LEN, ACCT_STATUS_TYPE, ACCT_DELAY_TIME, ACCT_SESSION_ID, ACCT_MULTI_SESSION_ID}

-- the accept number in a Class value of this server: 8 octets of its boot number, and 8 of the
-- number
abbrev pub class_number : (boot : ℕ) → List ℕ → Option ℕ
class_number boot value =
    if length value == CLASS_LEN && from_be_bytes w64 (take 8 value) == boot
    then Some (from_be_bytes w64 (drop 8 value))
    else None

-- the accept number of the first Class of this server; others are ignored
abbrev pub class_in : (boot : ℕ) → List Attribute → Option ℕ
class_in boot [] = None
class_in boot (attribute ∷ attributes) =
    if attribute.kind == CLASS
    then option_or (class_number boot attribute.value) (class_in boot attributes)
    else class_in boot attributes

-- a bundle's id; an empty one is none
abbrev pub unless_empty : Option (List ℕ) → Option (List ℕ)
unless_empty None = None
unless_empty (Some []) = None
unless_empty (Some (octet ∷ id)) = Some (octet ∷ id)

-- what is noted of a packet
abbrev pub note_of : Configuration → (client number : ℕ) → List Attribute → Note
note_of config client number attributes = record {
  nas = access_server_of config client attributes;
  status = number;
  name = text_of USER_NAME attributes;
  session = text_of ACCT_SESSION_ID attributes;
}

-- the session of a packet of this status has ended, or goes on
abbrev pub session_act : Configuration → (boot client account : ℕ) → Status → List Attribute → Act
session_act config boot client account statuses.Stop attributes =
    Stop (access_server_of config client attributes) (text_of ACCT_SESSION_ID attributes)
session_act config boot client account _ attributes =
    Alive (access_server_of config client attributes) (text_of ACCT_SESSION_ID attributes)
    (unless_empty (first_of ACCT_MULTI_SESSION_ID attributes)) (class_in boot attributes)
    (station_in config account attributes)

-- that is the act of the account that the packet names, if there is one
abbrev pub session_meaning : Configuration → (boot client : ℕ) → Status → List Attribute
    → (account : Option ℕ) → Meaning
session_meaning config boot client status attributes None =
    Stray (note_of config client (status_number status) attributes)
session_meaning config boot client status attributes (Some account) =
    Own account (session_act config boot client account status attributes)

-- the meaning of a session's packet, which has to name the session
abbrev pub if_session : Configuration → (boot client : ℕ) → Status → List Attribute
    → Result Meaning Dropped
if_session config boot client status attributes =
    if length (text_of ACCT_SESSION_ID attributes) == 0 then Err NoSession
    else Ok (session_meaning config boot client status attributes (named_account config attributes))

-- how many seconds ago the access server restarted: its Acct-Delay-Time (RFC 2866 section 5.2), if the
-- configuration heeds it, else 0
abbrev pub delay_in : Configuration → List Attribute → ℕ
delay_in config attributes =
    if config.settings.delay_time
    then unwrap_or (number_in (first_of ACCT_DELAY_TIME attributes)) 0
    else 0

-- the meaning by the status with this number, if there is one: at Accounting-On and Accounting-Off
-- the access server has restarted, and the others are of a session
abbrev pub by_status : Configuration → (boot client number : ℕ) → List Attribute → Option Status
    → Result Meaning Dropped
by_status config boot client number attributes (Some statuses.AccountingOn) =
    Ok (Restart (access_server_of config client attributes) (delay_in config attributes))
by_status config boot client number attributes (Some statuses.AccountingOff) =
    Ok (Restart (access_server_of config client attributes) (delay_in config attributes))
by_status config boot client number attributes (Some status) =
    if_session config boot client status attributes
by_status config boot client number attributes None =
    Ok (Stray (note_of config client number attributes))

-- the meaning by the number of the status
unfoldable pub status_meaning : Configuration → (boot client number : ℕ) → List Attribute
    → Result Meaning Dropped
status_meaning config boot client number attributes =
    by_status config boot client number attributes (status_of number)

-- the meaning by the Acct-Status-Type, if there is one
abbrev pub if_status : Configuration → (boot client : ℕ) → List Attribute → Option ℕ
    → Result Meaning Dropped
if_status config boot client attributes None = Err NoStatus
if_status config boot client attributes (Some number) =
    status_meaning config boot client number attributes

-- the meaning by the attributes, or the fault in their list
abbrev pub accounting_by : Configuration → (boot client : ℕ) → Result (List Attribute) ℕ
    → Result Meaning Dropped
accounting_by config boot client (Err at) = Err Malformed
accounting_by config boot client (Ok attributes) =
    if nat_lt (most_proxy_len (rule_of config)) (proxy_len attributes) then Err ProxyTooLong
    else if_status config boot client attributes (number_in (first_of ACCT_STATUS_TYPE attributes))

-- the meaning of a packet on the accounting port
unfoldable pub accounting_meaning : Configuration → (boot client : ℕ) → Fields
    → Result Meaning Dropped
accounting_meaning config boot client fields =
    if fields.code == ACCOUNTING_REQUEST
    then (if is_accounting_authentic (packet_octets fields) (secret_of config client)
    then accounting_by config boot client (attribute_list fields.attributes)
    else Err BadAuthenticator)
    else Err WrongCode
