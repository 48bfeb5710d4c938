-- What a datagram means is something that a reply can be made to.
use Rattle.std.proofs.Common.{◌≡◌, ℕ, ◌<◌, ◌≤◌, ◌==◌, ◌&&◌, Bool, true, false, not, cond, ltb, List, [], length, Option, Some, None, Result, Ok, Err, refl, sym, ap, subst, ◌∙◌, arith}
use Rattle.std.specs.Prelude.{option_and_then, position}
use Rattle.std.specs.List.{position_or_len}
use Rattle.std.specs.Result.{result_unwrap_or}
use Rattle.std.proofs.lemmas.Bool.{ltb-false, ltb-true}
use Rattle.rsl_accounts.specs.Configuration.{Configuration, client_number, account_number, same_octets}
use Rattle.rsl_auth.specs.Authenticator.{is_accounting_authentic}
use Rattle.rsl_wire.specs.Attributes.{Attribute, attribute_list, attributes_in, first_of, number_in}
use Rattle.rsl_wire.specs.Packet.{Fields, packet_octets, packet_of}
use Rattle.rsl_wire.specs.declared.packet.WireFault.{WireFault}
use Rattle.rsl_event.specs.Request.{access_server_of, named_account, proxy_len, secret_of, account_password, is_disabled, is_trusted, text_of, most_proxy_len}
use Rattle.rsl_event.specs.Access.{asks_once, if_let_in, is_let_in, asker, ask_or_reject, unless_dropped, request_meaning, access_by, access_meaning}
use Rattle.rsl_event.specs.Signature.{must_sign, signature_drop, rule_of}
use Rattle.rsl_event.specs.Accounting.{delay_in, note_of, session_act, session_meaning, if_session, by_status, status_meaning, if_status, accounting_by, accounting_meaning}
use Rattle.rsl_event.specs.Meaning.{packet_meaning, if_client, if_packet, meaning}
use Rattle.rsl_event.specs.Prepared.{HasProxyStates, HasAccount, HasRoomForReply, IsOfOneAccount, HasOwnAct}
use Rattle.rsl_event.specs.Status.{status_of}
use Rattle.rsl_event.specs.declared.status.Status.{Status}
use Rattle.rsl_event.specs.declared.status.Status.TheVariants as statuses
use Rattle.rsl_event.specs.declared.event.Source.{Source}
use Rattle.rsl_event.specs.declared.meaning.Port.{Port}
use Rattle.rsl_event.specs.declared.meaning.Port.TheVariants.{Auth, Acct}
use Rattle.rsl_event.specs.declared.meaning.Meaning.{Meaning}
use Rattle.rsl_event.specs.declared.meaning.Meaning.TheVariants.{Bare, Restart, Stray}
use Rattle.rsl_event.specs.declared.meaning.Dropped.{Dropped}
use Rattle.rsl_event.specs.declared.meaning.Dropped.TheVariants as drops
use Rattle.rsl_event.specs.declared.codes.TheConstants.{ACCESS_REQUEST, ACCOUNTING_REQUEST, USER_NAME, ACCT_STATUS_TYPE, ACCT_SESSION_ID}

-- what a reply can be made to
pub record IsMeant (config : Configuration) (attributes : List ℕ) (meaning : Meaning) : Type 0 where
  pub account : HasAccount config meaning
  pub room : HasRoomForReply config attributes meaning
  pub own : HasOwnAct meaning

abbrev Meant : Type 0
Meant = Result Meaning Dropped

-- a check that did not drop, and one that passed
passed : (b : Bool) (d : Dropped) (r : Meant) (m : Meaning) → cond b (Err d) r ≡ Ok m → (b ≡ false) × (r ≡ Ok m)
passed true d r m e = absurd cc
passed false d r m e = (refl, e)

held : (b : Bool) (d : Dropped) (r : Meant) (m : Meaning) → cond b r (Err d) ≡ Ok m → (b ≡ true) × (r ≡ Ok m)
held true d r m e = (refl, e)
held false d r m e = absurd cc

undropped : (o : Option Dropped) (r : Meant) (m : Meaning) → unless_dropped o r ≡ Ok m → r ≡ Ok m
undropped None r m e = e
undropped (Some d) r m e = absurd cc

abbrev done : Meaning → Meant
done m = Ok m

ok_is : (x y : Meaning) → done x ≡ done y → x ≡ y
ok_is x y e = cc

-- an index that is found is one of the list
position_within : {X : Type 0} (p : X → Bool) (xs : List X) (i : ℕ) → position p xs ≡ Some i → i < length xs
position_within p xs i e = by (ltb (position_or_len p xs) (length xs)) refl e
  where
    by : (b : Bool) → ltb (position_or_len p xs) (length xs) ≡ b → cond b (Some (position_or_len p xs)) None ≡ Some i → i < length xs
    by true t f = let within = ltb-true _ _ t in let same : position_or_len p xs ≡ i = cc in omega (arith, within, same)
    by false t f = absurd cc

pub client_number_within : (config : Configuration) (address : List ℕ) (client : ℕ) → client_number config address ≡ Some client → client < length config.clients
client_number_within config address client e = position_within (λ c. same_octets address c.address) config.clients client e

named_within : (config : Configuration) (name : Option (List ℕ)) (account : ℕ) → option_and_then (λ n. account_number config n) name ≡ Some account → account < length config.accounts
named_within config None account e = absurd cc
named_within config (Some name) account e = position_within (λ a. same_octets name a.name) config.accounts account e

-- the account of an ask
some_of : (b : Bool) (x y : ℕ) → cond b (Some x) None ≡ Some y → x ≡ y
some_of true x y e = cc
some_of false x y e = absurd cc

let_in_is : (config : Configuration) (client : ℕ) (authenticator : List ℕ) (attributes : List Attribute) (found : Option ℕ) (account : ℕ) → option_and_then (if_let_in config client authenticator attributes) found ≡ Some account → found ≡ Some account
let_in_is config client authenticator attributes None account e = absurd cc
let_in_is config client authenticator attributes (Some other) account e = ap (λ (x : ℕ). Some x) (some_of (is_let_in (is_trusted config client) (secret_of config client) authenticator attributes (account_password config other) && not (is_disabled config other)) other account e)

asked_is : (b : Bool) (found : Option ℕ) (account : ℕ) → cond b found None ≡ Some account → found ≡ Some account
asked_is true found account e = e
asked_is false found account e = absurd cc

pub asker_within : (config : Configuration) (client : ℕ) (authenticator : List ℕ) (attributes : List Attribute) (account : ℕ) → asker config client authenticator attributes ≡ Some account → account < length config.accounts
unfolding asker
asker_within config client authenticator attributes account e =
    let shown = asked_is (asks_once (is_trusted config client) attributes) (option_and_then (if_let_in config client authenticator attributes) (named_account config attributes)) account e in
    named_within config (first_of USER_NAME attributes) account (let_in_is config client authenticator attributes (named_account config attributes) account shown)

-- ---- the Proxy-States

has_proxy_states : (config : Configuration) (octets : List ℕ) (attributes : List Attribute) → attribute_list octets ≡ Ok attributes → proxy_len attributes ≤ most_proxy_len (rule_of config) → HasProxyStates config octets
has_proxy_states config octets attributes e short =
    let in_them : attributes_in octets ≡ attributes = ap (λ (r : Result (List Attribute) ℕ). result_unwrap_or r []) e in
    record { formed = e ∙ ap (λ (x : List Attribute). Ok x) (sym in_them); short = subst (λ (x : List Attribute). proxy_len x ≤ most_proxy_len (rule_of config)) (sym in_them) short }

-- ---- an Access-Request

asked_meant : (config : Configuration) (source : Source) (client : ℕ) (fields : Fields) (attributes : List Attribute) (account : Option ℕ) → HasProxyStates config fields.attributes
    → asker config client fields.authenticator attributes ≡ account → IsMeant config fields.attributes (ask_or_reject config source client fields attributes account)
asked_meant config source client fields attributes None has e = record { account = tt; room = has; own = tt }
asked_meant config source client fields attributes (Some account) has e = record { account = asker_within config client fields.authenticator attributes account e; room = has; own = tt }

access_by_meant : (config : Configuration) (source : Source) (client : ℕ) (fields : Fields) (r : Result (List Attribute) ℕ) (m : Meaning) → attribute_list fields.attributes ≡ r
    → access_by config source client fields r ≡ Ok m → IsMeant config fields.attributes m
access_by_meant config source client fields (Err at) m is e =
    let p = passed (must_sign config client) drops.Unsigned (done Bare) m e in
    subst (IsMeant config fields.attributes) (ok_is Bare m p.1) (record { account = tt; room = tt; own = tt })
access_by_meant config source client fields (Ok attributes) m is e =
    let account = asker config client fields.authenticator attributes in
    let signed = undropped (signature_drop config client fields attributes) (request_meaning config source client fields attributes) m e in
    let p = passed (ltb (most_proxy_len (rule_of config)) (proxy_len attributes)) drops.ProxyTooLong (Ok (ask_or_reject config source client fields attributes account)) m signed in
    let has = has_proxy_states config fields.attributes attributes is (ltb-false _ _ p.0) in
    subst (IsMeant config fields.attributes) (ok_is (ask_or_reject config source client fields attributes account) m p.1) (asked_meant config source client fields attributes account has refl)

pub access_meant : (config : Configuration) (source : Source) (client : ℕ) (fields : Fields) (m : Meaning) → access_meaning config source client fields ≡ Ok m → IsMeant config fields.attributes m
unfolding access_meaning
access_meant config source client fields m e =
    let h = held (fields.code == ACCESS_REQUEST) drops.WrongCode (access_by config source client fields (attribute_list fields.attributes)) m e in
    access_by_meant config source client fields (attribute_list fields.attributes) m refl h.1

-- ---- an Accounting-Request

session_own : (config : Configuration) (boot client account : ℕ) (status : Status) (attributes : List Attribute) → IsOfOneAccount (session_act config boot client account status attributes)
session_own config boot client account statuses.Start attributes = tt
session_own config boot client account statuses.Stop attributes = tt
session_own config boot client account statuses.InterimUpdate attributes = tt
session_own config boot client account statuses.AccountingOn attributes = tt
session_own config boot client account statuses.AccountingOff attributes = tt

session_meant : (config : Configuration) (boot client : ℕ) (status : Status) (octets : List ℕ) (attributes : List Attribute) (account : Option ℕ) → HasProxyStates config octets → named_account config attributes ≡ account
    → IsMeant config octets (session_meaning config boot client status attributes account)
session_meant config boot client status octets attributes None has e = record { account = tt; room = has; own = tt }
session_meant config boot client status octets attributes (Some account) has e = record { account = named_within config (first_of USER_NAME attributes) account e; room = has; own = session_own config boot client account status attributes }

if_session_meant : (config : Configuration) (boot client : ℕ) (status : Status) (octets : List ℕ) (attributes : List Attribute) (m : Meaning) → HasProxyStates config octets
    → if_session config boot client status attributes ≡ Ok m → IsMeant config octets m
if_session_meant config boot client status octets attributes m has e =
    let meant = session_meaning config boot client status attributes (named_account config attributes) in
    let p = passed (length (text_of ACCT_SESSION_ID attributes) == 0) drops.NoSession (done meant) m e in
    subst (IsMeant config octets) (ok_is meant m p.1) (session_meant config boot client status octets attributes (named_account config attributes) has refl)

by_status_meant : (config : Configuration) (boot client number : ℕ) (octets : List ℕ) (attributes : List Attribute) (status : Option Status) (m : Meaning) → HasProxyStates config octets
    → by_status config boot client number attributes status ≡ Ok m → IsMeant config octets m
by_status_meant config boot client number octets attributes (Some statuses.AccountingOn) m has e = subst (IsMeant config octets) (ok_is (Restart (access_server_of config client attributes) (delay_in config attributes)) m e) (record { account = tt; room = has; own = tt })
by_status_meant config boot client number octets attributes (Some statuses.AccountingOff) m has e = subst (IsMeant config octets) (ok_is (Restart (access_server_of config client attributes) (delay_in config attributes)) m e) (record { account = tt; room = has; own = tt })
by_status_meant config boot client number octets attributes (Some statuses.Start) m has e = if_session_meant config boot client statuses.Start octets attributes m has e
by_status_meant config boot client number octets attributes (Some statuses.Stop) m has e = if_session_meant config boot client statuses.Stop octets attributes m has e
by_status_meant config boot client number octets attributes (Some statuses.InterimUpdate) m has e = if_session_meant config boot client statuses.InterimUpdate octets attributes m has e
by_status_meant config boot client number octets attributes None m has e = subst (IsMeant config octets) (ok_is (Stray (note_of config client number attributes)) m e) (record { account = tt; room = has; own = tt })

status_meant : (config : Configuration) (boot client number : ℕ) (octets : List ℕ) (attributes : List Attribute) (m : Meaning) → HasProxyStates config octets
    → status_meaning config boot client number attributes ≡ Ok m → IsMeant config octets m
unfolding status_meaning
status_meant config boot client number octets attributes m has e = by_status_meant config boot client number octets attributes (status_of number) m has e

if_status_meant : (config : Configuration) (boot client : ℕ) (octets : List ℕ) (attributes : List Attribute) (status : Option ℕ) (m : Meaning) → HasProxyStates config octets
    → if_status config boot client attributes status ≡ Ok m → IsMeant config octets m
if_status_meant config boot client octets attributes None m has e = absurd cc
if_status_meant config boot client octets attributes (Some status) m has e = status_meant config boot client status octets attributes m has e

accounting_by_meant : (config : Configuration) (boot client : ℕ) (octets : List ℕ) (r : Result (List Attribute) ℕ) (m : Meaning) → attribute_list octets ≡ r
    → accounting_by config boot client r ≡ Ok m → IsMeant config octets m
accounting_by_meant config boot client octets (Err at) m is e = absurd cc
accounting_by_meant config boot client octets (Ok attributes) m is e =
    let status = number_in (first_of ACCT_STATUS_TYPE attributes) in
    let p = passed (ltb (most_proxy_len (rule_of config)) (proxy_len attributes)) drops.ProxyTooLong (if_status config boot client attributes status) m e in
    let has = has_proxy_states config octets attributes is (ltb-false _ _ p.0) in
    if_status_meant config boot client octets attributes status m has p.1

pub accounting_meant : (config : Configuration) (boot client : ℕ) (fields : Fields) (m : Meaning) → accounting_meaning config boot client fields ≡ Ok m → IsMeant config fields.attributes m
unfolding accounting_meaning
accounting_meant config boot client fields m e =
    let by_list = accounting_by config boot client (attribute_list fields.attributes) in
    let test = is_accounting_authentic (packet_octets fields) (secret_of config client) in
    let h = held (fields.code == ACCOUNTING_REQUEST) drops.WrongCode (cond test by_list (Err drops.BadAuthenticator)) m e in
    let k = held test drops.BadAuthenticator by_list m h.1 in
    accounting_by_meant config boot client fields.attributes (attribute_list fields.attributes) m refl k.1

-- ---- a datagram

packet_meant : (config : Configuration) (boot : ℕ) (port : Port) (source : Source) (fields : Fields) (client : ℕ) (m : Meaning) → packet_meaning config boot port source fields client ≡ Ok m → IsMeant config fields.attributes m
packet_meant config boot Auth source fields client m e = access_meant config source client fields m e
packet_meant config boot Acct source fields client m e = accounting_meant config boot client fields m e

client_meant : (config : Configuration) (boot : ℕ) (port : Port) (source : Source) (fields : Fields) (client : Option ℕ) (m : Meaning) → if_client config boot port source fields client ≡ Ok m → IsMeant config fields.attributes m
client_meant config boot port source fields None m e = absurd cc
client_meant config boot port source fields (Some client) m e = packet_meant config boot port source fields client m e

pub meaning_meant : (config : Configuration) (boot : ℕ) (port : Port) (source : Source) (datagram : List ℕ) (fields : Fields) (m : Meaning) → packet_of datagram ≡ Ok fields
    → meaning config boot port source datagram ≡ Ok m → IsMeant config fields.attributes m
unfolding meaning
meaning_meant config boot port source datagram fields m is e =
    client_meant config boot port source fields (client_number config source.address) m (subst (λ (r : Result Fields WireFault). if_packet config boot port source r ≡ Ok m) is e)
