-- What is written into an Accounting-Request, one part after another.
use Rattle.std.proofs.Common.{◌≡◌, ℕ, List, [], ◌∷◌, ◌++◌, Option, sym, ap, ◌∙◌, arith, append_assoc}
use Rattle.std.specs.Prelude.{replicate}
use Rattle.std.proofs.lemmas.List.{append-nil}
use Rattle.std.proofs.lemmas.List.Concat.{flat_map-append}
use Rattle.rsl_auth.specs.Authenticator.{sealed}
use Rattle.rsl_wire.specs.Attributes.{Attribute, attribute_of, attribute_octets, list_octets}
use Rattle.rsl_wire.specs.DraftSeen.{Begun}
use Rattle.rsl_wire.specs.Packet.{packet_octets}
use Rattle.rsl_event.specs.Answer.{number_attribute}
use Rattle.rsl_event.specs.Status.{status_number}
use Rattle.rsl_event.specs.declared.status.Status.{Status}
use Rattle.rsl_event.specs.declared.codes.TheConstants.{ACCOUNTING_REQUEST, USER_NAME, CALLING_STATION_ID, NAS_IDENTIFIER, ACCT_STATUS_TYPE, ACCT_SESSION_ID, ACCT_MULTI_SESSION_ID}
use Rattle.rsl_script.specs.declared.request.AccountingRequest.{AccountingRequest}
use Rattle.rsl_script.specs.declared.request.AccountingRequest.TheVariants.{Session, Server}
use Rattle.rsl_replay.specs.Attributes.{text_attribute}
use Rattle.rsl_replay.specs.Accounting.{class_attributes, delay_attributes, accounting_attributes, accounting_octets}

-- a draft with other attributes
abbrev pub with_attributes : Begun → List ℕ → Begun
with_attributes draft octets = record { id = draft.id; attributes = octets }

then_octets : (xs os : List Attribute) (before : List ℕ) → before ≡ list_octets xs → before ++ list_octets os ≡ list_octets (xs ++ os)
then_octets xs os before e = ap (λ (x : List ℕ). x ++ list_octets os) e ∙ sym (flat_map-append attribute_octets xs os)

-- one attribute is a list of one
one_octets : (attribute : Attribute) → attribute_octets attribute ≡ list_octets (attribute ∷ [])
one_octets attribute = sym (append-nil (attribute_octets attribute))

then_one : (xs : List Attribute) (attribute : Attribute) (before : List ℕ) → before ≡ list_octets xs → before ++ attribute_octets attribute ≡ list_octets (xs ++ attribute ∷ [])
then_one xs attribute before e = ap (λ (x : List ℕ). before ++ x) (one_octets attribute) ∙ then_octets xs (attribute ∷ []) before e

-- a status and an access server, into an empty draft
pub server_written : (status : Status) (name : Option (List ℕ)) (start a b : Begun) → start.attributes ≡ []
    → a ≡ with_attributes start (start.attributes ++ attribute_octets (number_attribute ACCT_STATUS_TYPE (status_number status)))
    → b ≡ with_attributes a (a.attributes ++ list_octets (text_attribute NAS_IDENTIFIER name))
    → b ≡ with_attributes start (list_octets (number_attribute ACCT_STATUS_TYPE (status_number status) ∷ text_attribute NAS_IDENTIFIER name))
server_written status name start a b empty ea eb =
    let first = number_attribute ACCT_STATUS_TYPE (status_number status) in
    let nas = text_attribute NAS_IDENTIFIER name in
    let a_is : a.attributes ≡ list_octets (first ∷ []) = ap (λ (x : Begun). x.attributes) ea ∙ then_one [] first start.attributes empty in
    let b_is : b.attributes ≡ list_octets (first ∷ nas) = ap (λ (x : Begun). x.attributes) eb ∙ then_octets (first ∷ []) nas a.attributes a_is in
    let id_is : b.id ≡ start.id = ap (λ (x : Begun). x.id) eb ∙ ap (λ (x : Begun). x.id) ea in
    λ k. record { id = id_is k; attributes = b_is k }

-- the parts of a report on an access server, and of one on a session, written one after another
pub server_request_written : (boot : ℕ) (status : Status) (name : Option (List ℕ)) (delay : Option ℕ) (start a b c : Begun) → start.attributes ≡ []
    → a ≡ with_attributes start (start.attributes ++ attribute_octets (number_attribute ACCT_STATUS_TYPE (status_number status)))
    → b ≡ with_attributes a (a.attributes ++ list_octets (text_attribute NAS_IDENTIFIER name))
    → c ≡ with_attributes b (b.attributes ++ list_octets (delay_attributes delay))
    → c ≡ with_attributes start (list_octets (accounting_attributes boot (Server status name delay)))
unfolding accounting_attributes
server_request_written boot status name delay start a b c empty ea eb ec =
    let first = number_attribute ACCT_STATUS_TYPE (status_number status) in
    let b_is = server_written status name start a b empty ea eb in
    let c_is : c.attributes ≡ list_octets (first ∷ text_attribute NAS_IDENTIFIER name ++ delay_attributes delay) =
    ap (λ (x : Begun). x.attributes) ec ∙ then_octets (first ∷ text_attribute NAS_IDENTIFIER name) (delay_attributes delay) b.attributes (ap (λ (x : Begun). x.attributes) b_is) in
    let id_is : c.id ≡ start.id = ap (λ (x : Begun). x.id) ec ∙ ap (λ (x : Begun). x.id) b_is in
    λ k. record { id = id_is k; attributes = c_is k }

pub session_request_written : (boot : ℕ) (status : Status) (nas : Option (List ℕ)) (name session given_name given_session : List ℕ) (bundle : Option (List ℕ)) (class : Option ℕ) (station : Option (List ℕ)) (start a b c d e f g : Begun) → start.attributes ≡ [] → given_name ≡ name → given_session ≡ session
    → a ≡ with_attributes start (start.attributes ++ attribute_octets (number_attribute ACCT_STATUS_TYPE (status_number status)))
    → b ≡ with_attributes a (a.attributes ++ list_octets (text_attribute NAS_IDENTIFIER nas))
    → c ≡ with_attributes b (b.attributes ++ attribute_octets (attribute_of USER_NAME given_name))
    → d ≡ with_attributes c (c.attributes ++ attribute_octets (attribute_of ACCT_SESSION_ID given_session))
    → e ≡ with_attributes d (d.attributes ++ list_octets (text_attribute ACCT_MULTI_SESSION_ID bundle))
    → f ≡ with_attributes e (e.attributes ++ list_octets (class_attributes boot class))
    → g ≡ with_attributes f (f.attributes ++ list_octets (text_attribute CALLING_STATION_ID station))
    → g ≡ with_attributes start (list_octets (accounting_attributes boot (Session status nas name session bundle class station)))
unfolding accounting_attributes
session_request_written boot status nas name session given_name given_session bundle class station start a b c d e f g empty en es ea eb ec ed ee ef eg =
    let first = number_attribute ACCT_STATUS_TYPE (status_number status) in
    let server = text_attribute NAS_IDENTIFIER nas in
    let user = attribute_of USER_NAME name in
    let own = attribute_of ACCT_SESSION_ID session in
    let links = text_attribute ACCT_MULTI_SESSION_ID bundle in
    let classes = class_attributes boot class in
    let device = text_attribute CALLING_STATION_ID station in
    let b_is : b.attributes ≡ list_octets (first ∷ server) = ap (λ (x : Begun). x.attributes) (server_written status nas start a b empty ea eb) in
    let c_is : c.attributes ≡ list_octets (first ∷ server ++ user ∷ []) = ap (λ (x : Begun). x.attributes) ec ∙ ap (λ (x : List ℕ). b.attributes ++ attribute_octets (attribute_of USER_NAME x)) en ∙ then_one (first ∷ server) user b.attributes b_is in
    let d_is : d.attributes ≡ list_octets (first ∷ (server ++ user ∷ []) ++ own ∷ []) = ap (λ (x : Begun). x.attributes) ed ∙ ap (λ (x : List ℕ). c.attributes ++ attribute_octets (attribute_of ACCT_SESSION_ID x)) es ∙ then_one (first ∷ server ++ user ∷ []) own c.attributes c_is in
    let e_is : e.attributes ≡ list_octets (first ∷ ((server ++ user ∷ []) ++ own ∷ []) ++ links) = ap (λ (x : Begun). x.attributes) ee ∙ then_octets (first ∷ (server ++ user ∷ []) ++ own ∷ []) links d.attributes d_is in
    let f_is : f.attributes ≡ list_octets (first ∷ (((server ++ user ∷ []) ++ own ∷ []) ++ links) ++ classes) = ap (λ (x : Begun). x.attributes) ef ∙ then_octets (first ∷ ((server ++ user ∷ []) ++ own ∷ []) ++ links) classes e.attributes e_is in
    let g_is : g.attributes ≡ list_octets (first ∷ ((((server ++ user ∷ []) ++ own ∷ []) ++ links) ++ classes) ++ device) = ap (λ (x : Begun). x.attributes) eg ∙ then_octets (first ∷ (((server ++ user ∷ []) ++ own ∷ []) ++ links) ++ classes) device f.attributes f_is in
    let joined : ((((server ++ user ∷ []) ++ own ∷ []) ++ links) ++ classes) ++ device ≡ server ++ user ∷ own ∷ links ++ classes ++ device = grind (arith, append_assoc) in
    let id_is : g.id ≡ start.id = ap (λ (x : Begun). x.id) eg ∙ ap (λ (x : Begun). x.id) ef ∙ ap (λ (x : Begun). x.id) ee ∙ ap (λ (x : Begun). x.id) ed ∙ ap (λ (x : Begun). x.id) ec ∙ ap (λ (x : Begun). x.id) eb ∙ ap (λ (x : Begun). x.id) ea in
    let all_are : g.attributes ≡ list_octets (first ∷ server ++ user ∷ own ∷ links ++ classes ++ device) = g_is ∙ ap (λ (x : List Attribute). list_octets (first ∷ x)) joined in
    λ k. record { id = id_is k; attributes = all_are k }

-- the request, from the drafts before it
pub request_is : (boot : ℕ) (request : AccountingRequest) (secret : List ℕ) (start written : Begun) (packet result : List ℕ)
    → start ≡ record { id = 0; attributes = [] } → written ≡ with_attributes start (list_octets (accounting_attributes boot request))
    → packet ≡ packet_octets (record { code = ACCOUNTING_REQUEST; id = written.id; authenticator = replicate 16 0; attributes = written.attributes })
    → result ≡ sealed packet (replicate 16 0) secret
    → result ≡ accounting_octets boot request secret
unfolding accounting_octets
request_is boot request secret start written packet result e0 e1 ep er =
    let id_is : written.id ≡ 0 = ap (λ (x : Begun). x.id) e1 ∙ ap (λ (x : Begun). x.id) e0 in
    let attributes_are : written.attributes ≡ list_octets (accounting_attributes boot request) = ap (λ (x : Begun). x.attributes) e1 in
    let packet_is = ep ∙ (λ k. packet_octets (record { code = ACCOUNTING_REQUEST; id = id_is k; authenticator = replicate 16 0; attributes = attributes_are k })) in
    er ∙ (λ k. sealed (packet_is k) (replicate 16 0) secret)
