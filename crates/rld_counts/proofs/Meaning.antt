-- Which drops and which meanings a port has.
use Rattle.std.proofs.Common.{◌≡◌, ℕ, Bool, true, false, cond, List, refl}
use Rattle.std.specs.Prelude.{⊤, ◌==◌, ◌&&◌, length, nat_lt, Option, Some, None, Result, Ok, Err}
use Rattle.rsl_accounts.specs.Configuration.{Configuration, client_number}
use Rattle.rsl_auth.specs.Authenticator.{is_accounting_authentic}
use Rattle.rsl_event.specs.Access.{access_by, access_meaning, ask_or_reject, asker, request_meaning, unless_dropped}
use Rattle.rsl_event.specs.Accounting.{accounting_by, accounting_meaning, by_status, if_session, if_status, session_act, session_meaning, status_meaning}
use Rattle.rsl_event.specs.Meaning.{if_client, if_packet, meaning}
use Rattle.rsl_event.specs.MeaningKind.{kind_of, kind_of_act}
use Rattle.rsl_event.specs.Request.{attribute_count, most_proxy_len, named_account, proxy_len, secret_of, text_of}
use Rattle.rsl_event.specs.Signature.{has_right_signature, has_signature, is_guarded, must_sign, rule_of}
use Rattle.rsl_event.specs.Status.{status_of}
use Rattle.rsl_event.specs.declared.codes.TheConstants.{ACCESS_REQUEST, ACCOUNTING_REQUEST, ACCT_SESSION_ID, ACCT_STATUS_TYPE, PROXY_STATE}
use Rattle.rsl_event.specs.declared.event.Act.TheVariants.{Ask}
use Rattle.rsl_event.specs.declared.event.Source.{Source}
use Rattle.rsl_event.specs.declared.meaning.Dropped.{Dropped}
use Rattle.rsl_event.specs.declared.meaning.Dropped.TheVariants as drops
use Rattle.rsl_event.specs.declared.meaning.Meaning.{Meaning}
use Rattle.rsl_event.specs.declared.meaning.Meaning.TheVariants.{Bare, Reject, Own}
use Rattle.rsl_event.specs.declared.meaning.Port.TheVariants.{Auth, Acct}
use Rattle.rsl_event.specs.declared.meaning_kind.MeaningKind.TheVariants as kinds
use Rattle.rsl_event.specs.declared.status.Status.{Status}
use Rattle.rsl_event.specs.declared.status.Status.TheVariants as statuses
use Rattle.rsl_wire.specs.Attributes.{Attribute, attribute_list, first_of, number_in}
use Rattle.rsl_wire.specs.Packet.{Fields, packet_octets, packet_of}
use Rattle.rsl_wire.specs.declared.packet.WireFault.{WireFault}
use Rattle.rsl_wire.specs.declared.packet.WireFault.TheVariants as wire

-- ---- the authentication port

-- the causes for which it drops
abbrev pub is_auth_drop : Dropped → Bool
is_auth_drop drops.Short = true
is_auth_drop drops.BadLength = true
is_auth_drop drops.UnknownClient = true
is_auth_drop drops.WrongCode = true
is_auth_drop drops.BadSignature = true
is_auth_drop drops.Unsigned = true
is_auth_drop drops.UnsignedProxy = true
is_auth_drop drops.ProxyTooLong = true
is_auth_drop _ = false

-- an Access-Request is rejected, or asks
abbrev pub IsAccess : Meaning → Type 0
IsAccess Bare = ⊤
IsAccess Reject = ⊤
IsAccess (Own account (Ask key nas station)) = ⊤
IsAccess _ = ⊥

abbrev pub OfAuth : Result Meaning Dropped → Type 0
OfAuth (Ok meant) = IsAccess meant
OfAuth (Err cause) = is_auth_drop cause ≡ true

auth_if : (b : Bool) (one other : Result Meaning Dropped) → OfAuth one → OfAuth other → OfAuth (cond b one other)
auth_if true one other first second = first
auth_if false one other first second = second

auth_asked : (config : Configuration) (source : Source) (client : ℕ) (fields : Fields) (attributes : List Attribute) (account : Option ℕ)
    → OfAuth (Ok (ask_or_reject config source client fields attributes account))
auth_asked config source client fields attributes None = tt
auth_asked config source client fields attributes (Some account) = tt

-- by the Message-Authenticator
auth_signed : (a b c d : Bool) (rest : Result Meaning Dropped) → OfAuth rest
    → OfAuth (unless_dropped (cond a (cond b None (Some drops.BadSignature)) (cond c (Some drops.Unsigned) (cond d (Some drops.UnsignedProxy) None))) rest)
auth_signed true true c d rest holds = holds
auth_signed true false c d rest holds = refl
auth_signed false b true d rest holds = refl
auth_signed false b false true rest holds = refl
auth_signed false b false false rest holds = holds

auth_requested : (config : Configuration) (source : Source) (client : ℕ) (fields : Fields) (attributes : List Attribute)
    → OfAuth (request_meaning config source client fields attributes)
auth_requested config source client fields attributes =
    auth_if (nat_lt (most_proxy_len (rule_of config)) (proxy_len attributes)) (Err drops.ProxyTooLong)
    (Ok (ask_or_reject config source client fields attributes (asker config client fields.authenticator attributes)))
    refl (auth_asked config source client fields attributes (asker config client fields.authenticator attributes))

auth_listed : (config : Configuration) (source : Source) (client : ℕ) (fields : Fields) (list : Result (List Attribute) ℕ)
    → OfAuth (access_by config source client fields list)
auth_listed config source client fields (Err at) =
    auth_if (must_sign config client) (Err drops.Unsigned) (Ok Bare) refl tt
auth_listed config source client fields (Ok attributes) =
    auth_signed (has_signature attributes) (has_right_signature fields attributes (secret_of config client))
    (must_sign config client) (is_guarded (rule_of config) && nat_lt 0 (attribute_count PROXY_STATE attributes))
    (request_meaning config source client fields attributes)
    (auth_requested config source client fields attributes)

auth_coded : (config : Configuration) (source : Source) (client : ℕ) (fields : Fields)
    → OfAuth (access_meaning config source client fields)
unfolding access_meaning
auth_coded config source client fields =
    auth_if (fields.code == ACCESS_REQUEST) (access_by config source client fields (attribute_list fields.attributes))
    (Err drops.WrongCode) (auth_listed config source client fields (attribute_list fields.attributes)) refl

auth_known : (config : Configuration) (boot : ℕ) (source : Source) (fields : Fields) (client : Option ℕ)
    → OfAuth (if_client config boot Auth source fields client)
auth_known config boot source fields None = refl
auth_known config boot source fields (Some client) = auth_coded config source client fields

auth_packet : (config : Configuration) (boot : ℕ) (source : Source) (packet : Result Fields WireFault)
    → OfAuth (if_packet config boot Auth source packet)
auth_packet config boot source (Err wire.Short) = refl
auth_packet config boot source (Err wire.BadLength) = refl
auth_packet config boot source (Ok fields) = auth_known config boot source fields (client_number config source.address)

pub auth_meaning : (config : Configuration) (boot : ℕ) (source : Source) (datagram : List ℕ)
    → OfAuth (meaning config boot Auth source datagram)
unfolding meaning
auth_meaning config boot source datagram = auth_packet config boot source (packet_of datagram)

-- ---- the accounting port

abbrev pub is_acct_drop : Dropped → Bool
is_acct_drop drops.Short = true
is_acct_drop drops.BadLength = true
is_acct_drop drops.UnknownClient = true
is_acct_drop drops.WrongCode = true
is_acct_drop drops.BadAuthenticator = true
is_acct_drop drops.Malformed = true
is_acct_drop drops.ProxyTooLong = true
is_acct_drop drops.NoStatus = true
is_acct_drop drops.NoSession = true
is_acct_drop _ = false

abbrev pub OfAcct : Result Meaning Dropped → Type 0
OfAcct (Ok meant) = kind_of meant ≡ kinds.Account
OfAcct (Err cause) = is_acct_drop cause ≡ true

acct_if : (b : Bool) (one other : Result Meaning Dropped) → OfAcct one → OfAcct other → OfAcct (cond b one other)
acct_if true one other first second = first
acct_if false one other first second = second

acct_act : (config : Configuration) (boot client : ℕ) (status : Status) (attributes : List Attribute) (account : ℕ)
    → kind_of_act account (session_act config boot client account status attributes) ≡ kinds.Account
acct_act config boot client statuses.Start attributes account = refl
acct_act config boot client statuses.Stop attributes account = refl
acct_act config boot client statuses.InterimUpdate attributes account = refl
acct_act config boot client statuses.AccountingOn attributes account = refl
acct_act config boot client statuses.AccountingOff attributes account = refl

acct_named : (config : Configuration) (boot client : ℕ) (status : Status) (attributes : List Attribute) (account : Option ℕ)
    → kind_of (session_meaning config boot client status attributes account) ≡ kinds.Account
acct_named config boot client status attributes None = refl
acct_named config boot client status attributes (Some account) = acct_act config boot client status attributes account

acct_session : (config : Configuration) (boot client : ℕ) (status : Status) (attributes : List Attribute)
    → OfAcct (if_session config boot client status attributes)
acct_session config boot client status attributes =
    acct_if (length (text_of ACCT_SESSION_ID attributes) == 0) (Err drops.NoSession)
    (Ok (session_meaning config boot client status attributes (named_account config attributes)))
    refl (acct_named config boot client status attributes (named_account config attributes))

acct_status : (config : Configuration) (boot client number : ℕ) (attributes : List Attribute) (status : Option Status)
    → OfAcct (by_status config boot client number attributes status)
acct_status config boot client number attributes None = refl
acct_status config boot client number attributes (Some statuses.AccountingOn) = refl
acct_status config boot client number attributes (Some statuses.AccountingOff) = refl
acct_status config boot client number attributes (Some statuses.Start) = acct_session config boot client statuses.Start attributes
acct_status config boot client number attributes (Some statuses.Stop) = acct_session config boot client statuses.Stop attributes
acct_status config boot client number attributes (Some statuses.InterimUpdate) =
    acct_session config boot client statuses.InterimUpdate attributes

acct_numbered : (config : Configuration) (boot client : ℕ) (attributes : List Attribute) (number : Option ℕ)
    → OfAcct (if_status config boot client attributes number)
unfolding status_meaning
acct_numbered config boot client attributes None = refl
acct_numbered config boot client attributes (Some number) =
    acct_status config boot client number attributes (status_of number)

acct_listed : (config : Configuration) (boot client : ℕ) (list : Result (List Attribute) ℕ)
    → OfAcct (accounting_by config boot client list)
acct_listed config boot client (Err at) = refl
acct_listed config boot client (Ok attributes) =
    acct_if (nat_lt (most_proxy_len (rule_of config)) (proxy_len attributes)) (Err drops.ProxyTooLong)
    (if_status config boot client attributes (number_in (first_of ACCT_STATUS_TYPE attributes)))
    refl (acct_numbered config boot client attributes (number_in (first_of ACCT_STATUS_TYPE attributes)))

acct_coded : (config : Configuration) (boot client : ℕ) (fields : Fields)
    → OfAcct (accounting_meaning config boot client fields)
unfolding accounting_meaning
acct_coded config boot client fields =
    acct_if (fields.code == ACCOUNTING_REQUEST)
    (cond (is_accounting_authentic (packet_octets fields) (secret_of config client))
    (accounting_by config boot client (attribute_list fields.attributes)) (Err drops.BadAuthenticator))
    (Err drops.WrongCode)
    (acct_if (is_accounting_authentic (packet_octets fields) (secret_of config client))
    (accounting_by config boot client (attribute_list fields.attributes)) (Err drops.BadAuthenticator)
    (acct_listed config boot client (attribute_list fields.attributes)) refl)
    refl

acct_known : (config : Configuration) (boot : ℕ) (source : Source) (fields : Fields) (client : Option ℕ)
    → OfAcct (if_client config boot Acct source fields client)
acct_known config boot source fields None = refl
acct_known config boot source fields (Some client) = acct_coded config boot client fields

acct_packet : (config : Configuration) (boot : ℕ) (source : Source) (packet : Result Fields WireFault)
    → OfAcct (if_packet config boot Acct source packet)
acct_packet config boot source (Err wire.Short) = refl
acct_packet config boot source (Err wire.BadLength) = refl
acct_packet config boot source (Ok fields) = acct_known config boot source fields (client_number config source.address)

pub acct_meaning : (config : Configuration) (boot : ℕ) (source : Source) (datagram : List ℕ)
    → OfAcct (meaning config boot Acct source datagram)
unfolding meaning
acct_meaning config boot source datagram = acct_packet config boot source (packet_of datagram)
