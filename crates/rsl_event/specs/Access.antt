-- What an Access-Request means (RFC 2865 section 4.1).
use Rattle.std.specs.Prelude.{ℕ, ◌+◌, ◌==◌, ◌&&◌, ◌||◌, nat_le, nat_lt, Bool, false, not, List, unwrap_or, option_and_then, if◌then◌else◌, Option, Some, None, Result, Ok, Err}
use Rattle.rsl_accounts.specs.Configuration.{Configuration}
use Rattle.rsl_auth.specs.Chap.{matches_chap}
use Rattle.rsl_auth.specs.Password.{matches_password}
use Rattle.rsl_wire.specs.Attributes.{Attribute, first_of, attribute_list}
use Rattle.rsl_wire.specs.Packet.{Fields}
use Rattle.rsl_event.specs.Credential.{has_unchecked_credential}
use Rattle.rsl_event.specs.Request.{attribute_count, access_server_of, named_account, proxy_len, secret_of, account_password, is_disabled, is_trusted, most_proxy_len}
use Rattle.rsl_event.specs.Station.{station_in}
use Rattle.rsl_event.specs.Signature.{must_sign, signature_drop, rule_of}
use Rattle.rsl_event.specs.declared.event.Source.{Source}
use Rattle.rsl_event.specs.declared.event.Act.TheVariants.{Ask}
use Rattle.rsl_event.specs.declared.meaning.Meaning.{Meaning}
use Rattle.rsl_event.specs.declared.meaning.Meaning.TheVariants.{Bare, Reject, Own}
use Rattle.rsl_event.specs.declared.meaning.Dropped.{Dropped}
use Rattle.rsl_event.specs.declared.meaning.Dropped.TheVariants.{WrongCode, ProxyTooLong, Unsigned}
use Rattle.rsl_event.specs.declared.codes.TheConstants.{ACCESS_REQUEST, USER_NAME, USER_PASSWORD, CHAP_PASSWORD, CHAP_CHALLENGE}

-- whether a trusted client passes on a credential that the server does not check, so that nobody may have
-- looked at it
abbrev pub passes_on_credential : (trusted : Bool) → List Attribute → Bool
passes_on_credential trusted attributes = trusted && has_unchecked_credential attributes

-- A trusted client vouches for a request that has no password of either kind.
abbrev pub is_vouched : (trusted : Bool) → List Attribute → Bool
is_vouched trusted attributes =
    trusted
    && attribute_count USER_PASSWORD attributes == 0
    && attribute_count CHAP_PASSWORD attributes == 0

-- exactly one password, of either kind
abbrev pub has_one_password : List Attribute → Bool
has_one_password attributes =
    attribute_count USER_PASSWORD attributes + attribute_count CHAP_PASSWORD attributes == 1

-- exactly one User-Name, no unchecked credential of a trusted client, exactly one password unless the client
-- vouches, and at most one CHAP-Challenge
abbrev pub asks_once : (trusted : Bool) → List Attribute → Bool
asks_once trusted attributes =
    attribute_count USER_NAME attributes == 1
    && not (passes_on_credential trusted attributes)
    && (has_one_password attributes || is_vouched trusted attributes)
    && nat_le (attribute_count CHAP_CHALLENGE attributes) 1

-- the CHAP challenge: the CHAP-Challenge if there is one, else the Request Authenticator (RFC 2865
-- section 5.3)
abbrev pub challenge_of : List ℕ → List Attribute → List ℕ
challenge_of authenticator attributes = unwrap_or (first_of CHAP_CHALLENGE attributes) authenticator

-- a User-Password or a CHAP-Password is this password
abbrev pub shows : (secret authenticator challenge password : List ℕ) (pap chap : Option (List ℕ))
    → Bool
shows secret authenticator challenge password (Some value) chap =
    matches_password value secret authenticator password
shows secret authenticator challenge password None (Some value) =
    matches_chap value challenge password
shows secret authenticator challenge password None None = false

-- the attributes show this password
abbrev pub shows_password : (secret authenticator : List ℕ) → List Attribute → (password : List ℕ)
    → Bool
shows_password secret authenticator attributes password =
    shows secret authenticator (challenge_of authenticator attributes) password
    (first_of USER_PASSWORD attributes) (first_of CHAP_PASSWORD attributes)

-- the same of the password that an account has or has not
abbrev pub shows_own : (secret authenticator : List ℕ) → List Attribute
    → (password : Option (List ℕ)) → Bool
shows_own secret authenticator attributes None = false
shows_own secret authenticator attributes (Some password) =
    shows_password secret authenticator attributes password

-- the client vouches, or the account's password is shown
abbrev pub is_let_in : (trusted : Bool) (secret authenticator : List ℕ) → List Attribute
    → (password : Option (List ℕ)) → Bool
is_let_in trusted secret authenticator attributes password =
    is_vouched trusted attributes || shows_own secret authenticator attributes password

-- the account, if the login is let in and the account is not disabled
abbrev pub if_let_in : Configuration → (client : ℕ) → (authenticator : List ℕ) → List Attribute
    → (account : ℕ) → Option ℕ
if_let_in config client authenticator attributes account =
    if is_let_in (is_trusted config client) (secret_of config client) authenticator attributes
    (account_password config account)
    && not (is_disabled config account)
    then Some account
    else None

-- the account that the request asks for, with its password or by a client that vouches
unfoldable pub asker : Configuration → (client : ℕ) → (authenticator : List ℕ) → List Attribute
    → Option ℕ
asker config client authenticator attributes =
    if asks_once (is_trusted config client) attributes
    then option_and_then (if_let_in config client authenticator attributes)
    (named_account config attributes)
    else None

-- an ask of that account, or a reject
abbrev pub ask_or_reject : Configuration → Source → (client : ℕ) → Fields → List Attribute
    → (account : Option ℕ) → Meaning
ask_or_reject config source client fields attributes None = Reject
ask_or_reject config source client fields attributes (Some account) =
    Own account
    (Ask (record { source = source; id = fields.id; authenticator = fields.authenticator })
    (access_server_of config client attributes) (station_in config account attributes))

-- the cause to drop the request, if there is one, else its meaning
abbrev pub unless_dropped : Option Dropped → Result Meaning Dropped → Result Meaning Dropped
unless_dropped None meaning = meaning
unless_dropped (Some dropped) meaning = Err dropped

-- the meaning of a request that is signed, or need not be
abbrev pub request_meaning : Configuration → Source → (client : ℕ) → Fields → List Attribute
    → Result Meaning Dropped
request_meaning config source client fields attributes =
    if nat_lt (most_proxy_len (rule_of config)) (proxy_len attributes) then Err ProxyTooLong
    else Ok (ask_or_reject config source client fields attributes
    (asker config client fields.authenticator attributes))

-- the meaning by the attributes or the fault in their list: a malformed list has no
-- Message-Authenticator
abbrev pub access_by : Configuration → Source → (client : ℕ) → Fields → Result (List Attribute) ℕ
    → Result Meaning Dropped
access_by config source client fields (Err at) =
    if must_sign config client then Err Unsigned else Ok Bare
access_by config source client fields (Ok attributes) =
    unless_dropped (signature_drop config client fields attributes)
    (request_meaning config source client fields attributes)

-- the meaning of a packet on the authentication port
unfoldable pub access_meaning : Configuration → Source → (client : ℕ) → Fields
    → Result Meaning Dropped
access_meaning config source client fields =
    if fields.code == ACCESS_REQUEST
    then access_by config source client fields (attribute_list fields.attributes)
    else Err WrongCode
