-- What is written into a reply, one part after another.
use Rattle.std.proofs.Common.{◌≡◌, ℕ, ◌+◌, ◌≤◌, Bool, true, false, append_assoc, List, [], ◌∷◌, ◌++◌, length, Option, Some, Ok, refl, sym, ap, subst, ◌∙◌, arith, take, drop}
use Rattle.std.specs.Prelude.{replicate, slice_get}
use Rattle.std.specs.Option.{option_map_or}
use Rattle.std.proofs.lemmas.List.{append-nil, drop_all, take_all}
use Rattle.std.proofs.lemmas.List.Concat.{flat_map-append}
use Rattle.rsl_accounts.specs.Configuration.{Configuration}
use Rattle.rsl_accounts.specs.Version.{is_strict, reply_room}
use Rattle.rsl_accounts.specs.declared.client.Client.{Client}
use Rattle.rsl_accounts.specs.declared.entry.Entry.{Entry}
use Rattle.rsl_auth.specs.Authenticator.{sealed}
use Rattle.rsl_wire.specs.Attributes.{Attribute, attribute_list, attribute_octets, list_octets, attributes_in}
use Rattle.rsl_wire.specs.DraftSeen.{Begun}
use Rattle.rsl_wire.specs.Packet.{Fields, packet_octets}
use Rattle.rsl_event.specs.Answer.{number_attribute, optional_attribute, class_attribute, accept_attributes, said_to, code_of, said_octets, repeated_attributes, port_limit_of, answer_to}
use Rattle.rsl_event.specs.Signature.{rule_of, reply_signing, signature_attributes, signed_by}
use Rattle.rsl_event.specs.declared.signing.Signing.{Signing}
use Rattle.rsl_event.specs.Request.{most_proxy_len, proxy_len, secret_of}
use Rattle.rsl_event.specs.declared.event.Decision.{Decision}
use Rattle.rsl_event.specs.Prepared.{HasRoomFor}
use Rattle.rsl_event.specs.declared.meaning_kind.MeaningKind.{MeaningKind}
use Rattle.rsl_event.specs.declared.meaning_kind.MeaningKind.TheVariants as kinds
use Rattle.rsl_event.specs.declared.words.Said.{Said}
use Rattle.rsl_event.specs.declared.codes.TheConstants.{PORT_LIMIT, SERVICE_TYPE, FRAMED_PROTOCOL, SESSION_TIMEOUT, IDLE_TIMEOUT, ACCT_INTERIM_INTERVAL}

-- a draft with other attributes
abbrev pub with_attributes : Begun → List ℕ → Begun
with_attributes draft octets = record { id = draft.id; attributes = octets }

then_octets : (front : List ℕ) (xs os : List Attribute) (before : List ℕ) → before ≡ front ++ list_octets xs → before ++ list_octets os ≡ front ++ list_octets (xs ++ os)
then_octets front xs os before e =
    ap (λ (x : List ℕ). x ++ list_octets os) e ∙ append_assoc front (list_octets xs) (list_octets os)
    ∙ ap (λ (x : List ℕ). front ++ x) (sym (flat_map-append attribute_octets xs os))

-- one attribute is a list of one
one_octets : (attribute : Attribute) → attribute_octets attribute ≡ list_octets (attribute ∷ [])
one_octets attribute = sym (append-nil (attribute_octets attribute))

-- the parts of an accept, written one after another
pub accept_written : (boot number : ℕ) (entry : Entry) (start a b c d e f g : Begun)
    → a ≡ with_attributes start (start.attributes ++ attribute_octets (class_attribute boot number))
    → b ≡ with_attributes a (a.attributes ++ list_octets (optional_attribute PORT_LIMIT (port_limit_of entry)))
    → c ≡ with_attributes b (b.attributes ++ list_octets (optional_attribute SERVICE_TYPE entry.service_type))
    → d ≡ with_attributes c (c.attributes ++ list_octets (optional_attribute FRAMED_PROTOCOL entry.framed_protocol))
    → e ≡ with_attributes d (d.attributes ++ list_octets (optional_attribute SESSION_TIMEOUT entry.session_timeout))
    → f ≡ with_attributes e (e.attributes ++ list_octets (optional_attribute IDLE_TIMEOUT entry.idle_timeout))
    → g ≡ with_attributes f (f.attributes ++ list_octets (optional_attribute ACCT_INTERIM_INTERVAL entry.interim))
    → g ≡ with_attributes start (start.attributes ++ list_octets (accept_attributes boot number entry))
unfolding accept_attributes
accept_written boot number entry start a b c d e f g ea eb ec ed ee ef eg =
    let front = start.attributes in
    let class = class_attribute boot number in
    let port = optional_attribute PORT_LIMIT (port_limit_of entry) in
    let s = optional_attribute SERVICE_TYPE entry.service_type in
    let p = optional_attribute FRAMED_PROTOCOL entry.framed_protocol in
    let t = optional_attribute SESSION_TIMEOUT entry.session_timeout in
    let i = optional_attribute IDLE_TIMEOUT entry.idle_timeout in
    let u = optional_attribute ACCT_INTERIM_INTERVAL entry.interim in
    let a_is : a.attributes ≡ front ++ list_octets (class ∷ []) = ap (λ (x : Begun). x.attributes) ea ∙ ap (λ (x : List ℕ). front ++ x) (one_octets class) in
    let b_is : b.attributes ≡ front ++ list_octets (class ∷ port) = ap (λ (x : Begun). x.attributes) eb ∙ then_octets front (class ∷ []) port a.attributes a_is in
    let c_is : c.attributes ≡ front ++ list_octets (class ∷ port ++ s) = ap (λ (x : Begun). x.attributes) ec ∙ then_octets front (class ∷ port) s b.attributes b_is in
    let d_is : d.attributes ≡ front ++ list_octets (class ∷ port ++ s ++ p) = ap (λ (x : Begun). x.attributes) ed ∙ then_octets front (class ∷ port ++ s) p c.attributes c_is in
    let e_is : e.attributes ≡ front ++ list_octets (class ∷ port ++ s ++ p ++ t) = ap (λ (x : Begun). x.attributes) ee ∙ then_octets front (class ∷ port ++ s ++ p) t d.attributes d_is in
    let f_is : f.attributes ≡ front ++ list_octets (class ∷ port ++ s ++ p ++ t ++ i) = ap (λ (x : Begun). x.attributes) ef ∙ then_octets front (class ∷ port ++ s ++ p ++ t) i e.attributes e_is in
    let g_is : g.attributes ≡ front ++ list_octets (class ∷ port ++ s ++ p ++ t ++ i ++ u) = ap (λ (x : Begun). x.attributes) eg ∙ then_octets front (class ∷ port ++ s ++ p ++ t ++ i) u f.attributes f_is in
    let id_is : g.id ≡ start.id = ap (λ (x : Begun). x.id) eg ∙ ap (λ (x : Begun). x.id) ef ∙ ap (λ (x : Begun). x.id) ee ∙ ap (λ (x : Begun). x.id) ed ∙ ap (λ (x : Begun). x.id) ec ∙ ap (λ (x : Begun). x.id) eb ∙ ap (λ (x : Begun). x.id) ea in
    λ k. record { id = id_is k; attributes = g_is k }

-- what a reply repeats has room, unless nothing is repeated
pub repeated_short : (config : Configuration) (octets : List ℕ) (attributes : List Attribute) (kind : MeaningKind) → attributes ≡ attributes_in octets → HasRoomFor config octets kind
    → (kind ≡ kinds.Bare → ⊥) → proxy_len attributes ≤ most_proxy_len (rule_of config)
repeated_short config octets attributes kinds.Bare e has other = absurd (other refl)
repeated_short config octets attributes kinds.Reject e has other = subst (λ (x : List Attribute). proxy_len x ≤ most_proxy_len (rule_of config)) (sym e) has.short
repeated_short config octets attributes (kinds.Ask account) e has other = subst (λ (x : List Attribute). proxy_len x ≤ most_proxy_len (rule_of config)) (sym e) has.short
repeated_short config octets attributes kinds.Account e has other = subst (λ (x : List Attribute). proxy_len x ≤ most_proxy_len (rule_of config)) (sym e) has.short

-- the attributes of a request that is not bare are well formed
pub formed_unless_bare : (config : Configuration) (octets : List ℕ) (kind : MeaningKind) → HasRoomFor config octets kind → (kind ≡ kinds.Bare → ⊥) → attribute_list octets ≡ Ok (attributes_in octets)
formed_unless_bare config octets kinds.Bare has other = absurd (other refl)
formed_unless_bare config octets kinds.Reject has other = has.formed
formed_unless_bare config octets (kinds.Ask account) has other = has.formed
formed_unless_bare config octets kinds.Account has other = has.formed

-- octets that were written after others
pub more_twice : (start first second : Begun) (xs ys zs : List ℕ) → first ≡ with_attributes start (start.attributes ++ xs)
    → second ≡ with_attributes first (first.attributes ++ ys) → xs ++ ys ≡ zs → second ≡ with_attributes start (start.attributes ++ zs)
more_twice start first second xs ys zs e f g =
    let id_is : second.id ≡ start.id = ap (λ (x : Begun). x.id) f ∙ ap (λ (x : Begun). x.id) e in
    let attributes_are : second.attributes ≡ start.attributes ++ zs =
    ap (λ (x : Begun). x.attributes) f ∙ ap (λ (x : Begun). x.attributes ++ ys) e ∙ append_assoc start.attributes xs ys ∙ ap (λ (x : List ℕ). start.attributes ++ x) g in
    λ k. record { id = id_is k; attributes = attributes_are k }

-- what is repeated has room after what is said
pub repeated_fits : (config : Configuration) (said repeated : ℕ) → said ≤ 72 + reply_room config.settings.version
    → repeated ≤ most_proxy_len (rule_of config) → 20 + (said + repeated) ≤ 4096
repeated_fits config said repeated short few = by (is_strict config.settings.version) refl
  where
    by : (b : Bool) → is_strict config.settings.version ≡ b → 20 + (said + repeated) ≤ 4096
    by true e =
        let short_ : said ≤ 1072 = rw e at short in
        let few_ : repeated ≤ 3000 = rw e at few in
        omega arith
    by false e =
        let short_ : said ≤ 72 = rw e at short in
        let few_ : repeated ≤ 3900 = rw e at few in
        omega arith

-- the attributes of a reply, from the drafts before it
pub reply_written : (id : ℕ) (signature : List Attribute) (said : List ℕ) (repeated : List Attribute) (start first second third : Begun) → start ≡ record { id = id; attributes = [] }
    → first ≡ with_attributes start (start.attributes ++ list_octets signature) → second ≡ with_attributes first (first.attributes ++ said)
    → third ≡ with_attributes second (second.attributes ++ list_octets repeated)
    → third ≡ record { id = id; attributes = list_octets signature ++ said ++ list_octets repeated }
reply_written id signature said repeated start first second third e0 e1 e2 e3 =
    let id_is : third.id ≡ id = ap (λ (x : Begun). x.id) e3 ∙ ap (λ (x : Begun). x.id) e2 ∙ ap (λ (x : Begun). x.id) e1 ∙ ap (λ (x : Begun). x.id) e0 in
    let first_is : first.attributes ≡ list_octets signature = ap (λ (x : Begun). x.attributes) e1 ∙ ap (λ (x : List ℕ). x ++ list_octets signature) (ap (λ (x : Begun). x.attributes) e0) in
    let second_is : second.attributes ≡ list_octets signature ++ said = ap (λ (x : Begun). x.attributes) e2 ∙ ap (λ (x : List ℕ). x ++ said) first_is in
    let third_is : third.attributes ≡ list_octets signature ++ said ++ list_octets repeated = ap (λ (x : Begun). x.attributes) e3 ∙ ap (λ (x : List ℕ). x ++ list_octets repeated) second_is in
    λ k. record { id = id_is k; attributes = third_is k }

-- a list that was written over one as long
pub put_back : (n : ℕ) (was now : List ℕ) → length now ≡ n → length was ≡ n → take n (now ++ drop (length now) was) ≡ now
put_back n was now e f =
    let none : drop (length now) was ≡ [] = drop_all (length now) was (omega arith) in
    ap (λ (x : List ℕ). take n (now ++ x)) none ∙ ap (take n) (append-nil now) ∙ take_all n now (omega arith)

-- the reply, from the drafts before it
pub answer_is : (config : Configuration) (boot client : ℕ) (fields : Fields) (kind : MeaningKind) (decision : Decision) (word : Said) (code : ℕ) (signing : Signing)
    (start first second third : Begun) (packet secret result : List ℕ) (found : Client)
    → start ≡ record { id = fields.id; attributes = [] } → first ≡ with_attributes start (start.attributes ++ list_octets (signature_attributes signing))
    → second ≡ with_attributes first (first.attributes ++ said_octets config boot kind decision)
    → third ≡ with_attributes second (second.attributes ++ list_octets (repeated_attributes (attributes_in fields.attributes) kind))
    → word ≡ said_to kind decision → signing ≡ reply_signing (rule_of config) word (attributes_in fields.attributes) → code ≡ code_of word
    → slice_get config.clients client ≡ Some found → secret ≡ found.secret
    → packet ≡ signed_by signing (packet_octets (record { code = code; id = third.id; authenticator = replicate 16 0; attributes = third.attributes })) fields.authenticator secret
    → result ≡ sealed packet fields.authenticator secret
    → result ≡ answer_to config boot client fields kind decision
unfolding answer_to
answer_is config boot client fields kind decision word code signing start first second third packet secret result found e0 e1 e2 e3 ew eg ec ef es ep er =
    let attributes = attributes_in fields.attributes in
    let said_are = said_octets config boot kind decision in
    let repeated = repeated_attributes attributes kind in
    let code_is : code ≡ code_of (said_to kind decision) = ec ∙ ap code_of ew in
    let signing_is : signing ≡ reply_signing (rule_of config) (said_to kind decision) attributes = eg ∙ ap (λ (w : Said). reply_signing (rule_of config) w attributes) ew in
    let secret_is : secret ≡ secret_of config client = es ∙ sym (ap (λ (o : Option Client). option_map_or (λ c. c.secret) o []) ef) in
    let third_is = reply_written fields.id (signature_attributes signing) said_are repeated start first second third e0 e1 e2 e3 in
    let written = ap (λ (x : Begun). packet_octets (record { code = code; id = x.id; authenticator = replicate 16 0; attributes = x.attributes })) third_is in
    let unsigned = written ∙ (λ k. packet_octets (record { code = code_is k; id = fields.id; authenticator = replicate 16 0; attributes = list_octets (signature_attributes (signing_is k)) ++ said_are ++ list_octets repeated })) in
    let packet_is = ep ∙ (λ k. signed_by (signing_is k) (unsigned k) fields.authenticator (secret_is k)) in
    er ∙ (λ k. sealed (packet_is k) fields.authenticator (secret_is k))
