-- A request that is understood has a cause exactly where it is rejected.
use Rattle.std.proofs.Common.{◌≡◌, ℕ, Bool, true, false, not, cond, List, refl, subst, sym}
use Rattle.std.specs.Prelude.{◌==◌, ◌&&◌, ◌||◌, nat_le, nat_lt, option_and_then, Option, Some, None, Result, Ok, Err}
use Rattle.std.specs.Option.{option_or}
use Rattle.rsl_accounts.specs.Configuration.{Configuration, client_number}
use Rattle.rsl_event.specs.Access.{access_by, access_meaning, ask_or_reject, asker, has_one_password, if_let_in, is_vouched, passes_on_credential, shows_own, shows_password, unless_dropped}
use Rattle.rsl_event.specs.Meaning.{if_client, if_packet, meaning}
use Rattle.rsl_event.specs.Request.{account_password, is_disabled, is_trusted, attribute_count, named_account, proxy_len, secret_of, most_proxy_len}
use Rattle.rsl_event.specs.Signature.{must_sign, signature_drop, rule_of}
use Rattle.rsl_event.specs.declared.codes.TheConstants.{ACCESS_REQUEST, USER_NAME, CHAP_CHALLENGE}
use Rattle.rsl_event.specs.declared.event.Source.{Source}
use Rattle.rsl_event.specs.declared.meaning.Dropped.{Dropped}
use Rattle.rsl_event.specs.declared.meaning.Dropped.TheVariants as drops
use Rattle.rsl_event.specs.declared.meaning.Meaning.{Meaning}
use Rattle.rsl_event.specs.declared.meaning.Meaning.TheVariants.{Bare}
use Rattle.rsl_event.specs.declared.meaning.Port.TheVariants.{Auth}
use Rattle.rsl_wire.specs.Attributes.{Attribute, attribute_list}
use Rattle.rsl_wire.specs.Packet.{Fields, packet_of}
use Rattle.rsl_wire.specs.declared.packet.WireFault.{WireFault}
use Rattle.rsl_wire.specs.declared.packet.WireFault.TheVariants as wire
use Rattle.rsl_event.specs.Detail as details
use Rattle.rsl_event.specs.Cause.{asker_cause, cause_by, disabled_cause, password_cause, request_cause}
use Rattle.rsl_event.specs.Detail.{detail_by, detail_of}
use Rattle.rsl_event.specs.Laws.{IsCauseOf, cause_in}
use Rattle.rsl_event.specs.declared.detail.RejectCause.{RejectCause}
use Rattle.rsl_event.specs.declared.detail.RejectCause.TheVariants.{Malformed, NotOneName, UncheckedCredential, NotOnePassword, SeveralChallenges, UnknownAccount, NoPassword, WrongPassword, DisabledAccount}

-- by whether the client vouches, whether the account has a password that is shown, and whether it is disabled
let_in : (v d : Bool) (config : Configuration) (source : Source) (client : ℕ) (fields : Fields) (attributes : List Attribute) (account : ℕ) (password : Option (List ℕ))
    → IsCauseOf (ask_or_reject config source client fields attributes
    (cond ((v || shows_own (secret_of config client) fields.authenticator attributes password) && not d) (Some account) None))
    (option_or (disabled_cause d) (cond v None (password_cause (secret_of config client) fields.authenticator attributes password)))
let_in v true config source client fields attributes account password =
    rejected (v || shows_own (secret_of config client) fields.authenticator attributes password)
  where
    rejected : (s : Bool) → IsCauseOf (ask_or_reject config source client fields attributes (cond (s && false) (Some account) None)) (Some DisabledAccount)
    rejected true = λ (e : DisabledAccount ≡ Malformed). cc
    rejected false = λ (e : DisabledAccount ≡ Malformed). cc
let_in true false config source client fields attributes account password = refl
let_in false false config source client fields attributes account None = λ (e : NoPassword ≡ Malformed). cc
let_in false false config source client fields attributes account (Some password) =
    by (shows_password (secret_of config client) fields.authenticator attributes password)
  where
    by : (s : Bool) → IsCauseOf (ask_or_reject config source client fields attributes (cond (s && true) (Some account) None)) (cond s None (Some WrongPassword))
    by true = refl
    by false = λ (e : WrongPassword ≡ Malformed). cc

-- by the account that is named
asked : (config : Configuration) (source : Source) (client : ℕ) (fields : Fields) (attributes : List Attribute) (named : Option ℕ)
    → IsCauseOf (ask_or_reject config source client fields attributes (option_and_then (if_let_in config client fields.authenticator attributes) named))
    (asker_cause config client fields.authenticator attributes named)
asked config source client fields attributes None = λ (e : UnknownAccount ≡ Malformed). cc
asked config source client fields attributes (Some account) =
    let_in (is_vouched (is_trusted config client) attributes) (is_disabled config account) config source client fields attributes account
    (account_password config account)

-- by whether there is a credential that is not checked, and how often each attribute stands there
counted : (a t b c : Bool) (config : Configuration) (source : Source) (client : ℕ) (fields : Fields) (attributes : List Attribute)
    (account : Option ℕ) (cause : Option RejectCause)
    → IsCauseOf (ask_or_reject config source client fields attributes account) cause
    → IsCauseOf (ask_or_reject config source client fields attributes (cond (a && not t && b && c) account None))
    (option_or (cond a (cond t (Some UncheckedCredential) (cond b (cond c None (Some SeveralChallenges)) (Some NotOnePassword))) (Some NotOneName)) cause)
counted true false true true config source client fields attributes account cause holds = holds
counted true false true false config source client fields attributes account cause holds = λ (e : SeveralChallenges ≡ Malformed). cc
counted true false false c config source client fields attributes account cause holds = λ (e : NotOnePassword ≡ Malformed). cc
counted true true b c config source client fields attributes account cause holds = λ (e : UncheckedCredential ≡ Malformed). cc
counted false t b c config source client fields attributes account cause holds = λ (e : NotOneName ≡ Malformed). cc

-- a well-formed request that is not dropped
ask_cause : (config : Configuration) (source : Source) (client : ℕ) (fields : Fields) (attributes : List Attribute)
    → IsCauseOf (ask_or_reject config source client fields attributes (asker config client fields.authenticator attributes))
    (cause_by config client fields.authenticator (Ok attributes))
unfolding asker
ask_cause config source client fields attributes =
    counted (attribute_count USER_NAME attributes == 1)
    (passes_on_credential (is_trusted config client) attributes)
    (has_one_password attributes || is_vouched (is_trusted config client) attributes)
    (nat_le (attribute_count CHAP_CHALLENGE attributes) 1) config source client fields attributes
    (option_and_then (if_let_in config client fields.authenticator attributes) (named_account config attributes))
    (asker_cause config client fields.authenticator attributes (named_account config attributes))
    (asked config source client fields attributes (named_account config attributes))

-- a meaning that is given where a test fails, and a drop where it passes
given : (b : Bool) (dropped : Dropped) (other meant : Meaning) (cause : Option RejectCause)
    → cond b (Err dropped) (Ok other) ≡ Ok meant → IsCauseOf other cause → IsCauseOf meant cause
given true dropped other meant cause is holds = absurd (cc is)
given false dropped other meant cause is holds =
    let same : other ≡ meant = cc in
    subst (λ (m : Meaning). IsCauseOf m cause) same holds

-- by the cause to drop the request, if there is one
undropped : (drop : Option Dropped) (b : Bool) (dropped : Dropped) (other meant : Meaning) (cause : Option RejectCause)
    → unless_dropped drop (cond b (Err dropped) (Ok other)) ≡ Ok meant → IsCauseOf other cause → IsCauseOf meant cause
undropped None b dropped other meant cause is holds = given b dropped other meant cause is holds
undropped (Some first) b dropped other meant cause is holds = absurd (cc is)

-- by the attributes, or the fault in their list
listed : (config : Configuration) (source : Source) (client : ℕ) (fields : Fields) (list : Result (List Attribute) ℕ) (meant : Meaning)
    → access_by config source client fields list ≡ Ok meant
    → IsCauseOf meant (cause_by config client fields.authenticator list)
listed config source client fields (Err at) meant is =
    given (must_sign config client) drops.Unsigned Bare meant (Some Malformed) is refl
listed config source client fields (Ok attributes) meant is =
    undropped (signature_drop config client fields attributes) (nat_lt (most_proxy_len (rule_of config)) (proxy_len attributes)) drops.ProxyTooLong
    (ask_or_reject config source client fields attributes (asker config client fields.authenticator attributes)) meant
    (cause_by config client fields.authenticator (Ok attributes)) is (ask_cause config source client fields attributes)

-- by the Code
coded : (config : Configuration) (source : Source) (client : ℕ) (fields : Fields) (meant : Meaning)
    → access_meaning config source client fields ≡ Ok meant → IsCauseOf meant (request_cause config client fields)
unfolding access_meaning
coded config source client fields meant is = by (fields.code == ACCESS_REQUEST) is
  where
    by : (b : Bool) → cond b (access_by config source client fields (attribute_list fields.attributes)) (Err drops.WrongCode) ≡ Ok meant
        → IsCauseOf meant (request_cause config client fields)
    by true is = listed config source client fields (attribute_list fields.attributes) meant is
    by false is = absurd (cc is)

-- the cause that a request's detail tells
told : (cause : Option RejectCause) → cause_in (Some (detail_by cause)) ≡ cause
told None = refl
told (Some cause) = refl

-- by the client
of_client : (config : Configuration) (boot : ℕ) (source : Source) (fields : Fields) (client : Option ℕ) (meant : Meaning)
    → if_client config boot Auth source fields client ≡ Ok meant → IsCauseOf meant (cause_in (details.if_client config Auth fields client))
of_client config boot source fields None meant is = absurd (cc is)
of_client config boot source fields (Some client) meant is =
    subst (λ (c : Option RejectCause). IsCauseOf meant c) (sym (told (request_cause config client fields))) (coded config source client fields meant is)

-- by the packet
in_packet : (config : Configuration) (boot : ℕ) (source : Source) (packet : Result Fields WireFault) (meant : Meaning)
    → if_packet config boot Auth source packet ≡ Ok meant → IsCauseOf meant (cause_in (details.if_packet config Auth source packet))
in_packet config boot source (Err wire.Short) meant is = absurd (cc is)
in_packet config boot source (Err wire.BadLength) meant is = absurd (cc is)
in_packet config boot source (Ok fields) meant is = of_client config boot source fields (client_number config source.address) meant is

pub meaning_cause : (config : Configuration) (boot : ℕ) (source : Source) (datagram : List ℕ) (meant : Meaning)
    → meaning config boot Auth source datagram ≡ Ok meant → IsCauseOf meant (cause_in (detail_of config Auth source datagram))
unfolding meaning
meaning_cause config boot source datagram meant is = in_packet config boot source (packet_of datagram) meant is
