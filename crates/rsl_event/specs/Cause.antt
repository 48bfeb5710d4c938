-- Why an Access-Request is rejected, whatever the books hold: the first condition of an ask that it
-- does not meet (RFC 2865 section 4.1).
use Rattle.std.specs.Prelude.{◌≡◌, ℕ, ◌==◌, ◌||◌, nat_le, Bool, List, if◌then◌else◌, Option, Some, None, Result, Ok, Err}
use Rattle.std.specs.Option.{option_or}
use Rattle.rsl_accounts.specs.Configuration.{Configuration}
use Rattle.rsl_wire.specs.Attributes.{Attribute, attribute_list}
use Rattle.rsl_wire.specs.Packet.{Fields}
use Rattle.rsl_event.specs.Access.{has_one_password, is_vouched, passes_on_credential, shows_password}
use Rattle.rsl_event.specs.Request.{account_password, is_disabled, is_trusted, attribute_count, named_account, secret_of}
use Rattle.rsl_event.specs.declared.codes.TheConstants.{USER_NAME, CHAP_CHALLENGE}
use Rattle.rsl_event.specs.declared.detail.RejectCause.{RejectCause}
use Rattle.rsl_event.specs.declared.detail.RejectCause.TheVariants.{Malformed, NotOneName, UncheckedCredential, NotOnePassword, SeveralChallenges, UnknownAccount, NoPassword, WrongPassword, DisabledAccount}

-- one User-Name, no unchecked credential of a trusted client, one password of either kind unless the client
-- vouches, at most one CHAP-Challenge: the first of these that is not so
abbrev pub count_cause : (trusted : Bool) → List Attribute → Option RejectCause
count_cause trusted attributes =
    if attribute_count USER_NAME attributes == 1
    then (if passes_on_credential trusted attributes then Some UncheckedCredential
    else (if has_one_password attributes || is_vouched trusted attributes
    then (if nat_le (attribute_count CHAP_CHALLENGE attributes) 1 then None
    else Some SeveralChallenges)
    else Some NotOnePassword))
    else Some NotOneName

-- the account has a password, and it is shown
abbrev pub password_cause : (secret authenticator : List ℕ) → List Attribute
    → (password : Option (List ℕ)) → Option RejectCause
password_cause secret authenticator attributes None = Some NoPassword
password_cause secret authenticator attributes (Some password) =
    if shows_password secret authenticator attributes password then None else Some WrongPassword

-- unless the client vouches
abbrev pub login_cause : (trusted : Bool) (secret authenticator : List ℕ) → List Attribute
    → (password : Option (List ℕ)) → Option RejectCause
login_cause trusted secret authenticator attributes password =
    if is_vouched trusted attributes then None
    else password_cause secret authenticator attributes password

abbrev pub disabled_cause : (is_disabled : Bool) → Option RejectCause
disabled_cause is_disabled = if is_disabled then Some DisabledAccount else None

-- there is an account of the name, it is not disabled, whatever password is shown, and the login is let in
abbrev pub asker_cause : Configuration → (client : ℕ) → (authenticator : List ℕ) → List Attribute
    → (account : Option ℕ) → Option RejectCause
asker_cause config client authenticator attributes None = Some UnknownAccount
asker_cause config client authenticator attributes (Some account) =
    option_or (disabled_cause (is_disabled config account))
    (login_cause (is_trusted config client) (secret_of config client) authenticator attributes
    (account_password config account))

-- the cause by the attributes
abbrev pub listed_cause : Configuration → (client : ℕ) → (authenticator : List ℕ) → List Attribute
    → Option RejectCause
listed_cause config client authenticator attributes =
    option_or (count_cause (is_trusted config client) attributes)
    (asker_cause config client authenticator attributes (named_account config attributes))

-- the cause by the attributes, or the fault in their list
abbrev pub cause_by : Configuration → (client : ℕ) → (authenticator : List ℕ)
    → Result (List Attribute) ℕ → Option RejectCause
cause_by config client authenticator (Err at) = Some Malformed
cause_by config client authenticator (Ok attributes) =
    listed_cause config client authenticator attributes

-- why a request of a client is rejected, if it is
abbrev pub request_cause : Configuration → (client : ℕ) → Fields → Option RejectCause
request_cause config client fields =
    cause_by config client fields.authenticator (attribute_list fields.attributes)

-- the account that asks, or the cause why none does
abbrev pub IsAsker : Result ℕ RejectCause → (account : Option ℕ) → (cause : Option RejectCause)
    → Type 0
IsAsker (Ok found) account cause = (account ≡ Some found) × (cause ≡ None)
IsAsker (Err found) account cause = (account ≡ None) × (cause ≡ Some found)
