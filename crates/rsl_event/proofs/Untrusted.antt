-- A client that is not trusted is never rejected for a credential that is not checked.
use Rattle.std.proofs.Common.{◌≡◌, ℕ, Bool, true, false, cond, List, ap}
use Rattle.std.specs.Prelude.{◌==◌, ◌&&◌, ◌||◌, nat_le, Option, Some, None, Result, Ok, Err}
use Rattle.std.specs.Option.{option_or}
use Rattle.rsl_accounts.specs.Configuration.{Configuration}
use Rattle.rsl_wire.specs.Attributes.{Attribute, attribute_list}
use Rattle.rsl_wire.specs.Packet.{Fields}
use Rattle.rsl_event.specs.Access.{has_one_password, is_vouched, passes_on_credential, shows_password}
use Rattle.rsl_event.specs.Cause.{asker_cause, cause_by, disabled_cause, password_cause, request_cause}
use Rattle.rsl_event.specs.Credential.{has_unchecked_credential}
use Rattle.rsl_event.specs.Request.{account_password, attribute_count, is_disabled, is_trusted, named_account, secret_of}
use Rattle.rsl_event.specs.declared.codes.TheConstants.{USER_NAME, CHAP_CHALLENGE}
use Rattle.rsl_event.specs.declared.detail.RejectCause.{RejectCause}
use Rattle.rsl_event.specs.declared.detail.RejectCause.TheVariants.{NotOneName, UncheckedCredential, NotOnePassword, SeveralChallenges, WrongPassword}

-- by how often each attribute stands there
counted : (a t b c : Bool) (cause : Option RejectCause) → t ≡ false → (cause ≡ Some UncheckedCredential → ⊥)
    → option_or (cond a (cond t (Some UncheckedCredential) (cond b (cond c None (Some SeveralChallenges)) (Some NotOnePassword))) (Some NotOneName)) cause ≡ Some UncheckedCredential → ⊥
counted true false true true cause none holds e = holds e
counted true false true false cause none holds e = absurd (cc e)
counted true false false c cause none holds e = absurd (cc e)
counted true true b c cause none holds e = absurd (cc none)
counted false t b c cause none holds e = absurd (cc e)

-- by the account that is named
asked : (config : Configuration) (client : ℕ) (authenticator : List ℕ) (attributes : List Attribute) (named : Option ℕ)
    → asker_cause config client authenticator attributes named ≡ Some UncheckedCredential → ⊥
asked config client authenticator attributes None e = absurd (cc e)
asked config client authenticator attributes (Some account) e =
    by (is_disabled config account) (is_vouched (is_trusted config client) attributes) (account_password config account) e
  where
    shown : (s : Bool) → cond s None (Some WrongPassword) ≡ Some UncheckedCredential → ⊥
    shown true e = absurd (cc e)
    shown false e = absurd (cc e)

    by : (d v : Bool) (password : Option (List ℕ))
        → option_or (disabled_cause d) (cond v None (password_cause (secret_of config client) authenticator attributes password)) ≡ Some UncheckedCredential → ⊥
    by true v password e = absurd (cc e)
    by false true password e = absurd (cc e)
    by false false None e = absurd (cc e)
    by false false (Some password) e = shown (shows_password (secret_of config client) authenticator attributes password) e

-- by the attributes, or the fault in their list
listed : (config : Configuration) (client : ℕ) (authenticator : List ℕ) (list : Result (List Attribute) ℕ) → is_trusted config client ≡ false
    → cause_by config client authenticator list ≡ Some UncheckedCredential → ⊥
listed config client authenticator (Err at) untrusted e = absurd (cc e)
listed config client authenticator (Ok attributes) untrusted e =
    counted (attribute_count USER_NAME attributes == 1)
    (passes_on_credential (is_trusted config client) attributes)
    (has_one_password attributes || is_vouched (is_trusted config client) attributes)
    (nat_le (attribute_count CHAP_CHALLENGE attributes) 1)
    (asker_cause config client authenticator attributes (named_account config attributes))
    (ap (λ (b : Bool). b && has_unchecked_credential attributes) untrusted)
    (asked config client authenticator attributes (named_account config attributes)) e

pub unchecked_trusted : (config : Configuration) (client : ℕ) (fields : Fields) → is_trusted config client ≡ false
    → request_cause config client fields ≡ Some UncheckedCredential → ⊥
unchecked_trusted config client fields untrusted e =
    listed config client fields.authenticator (attribute_list fields.attributes) untrusted e
