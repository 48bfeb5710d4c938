-- What is written into an Access-Request, one part after another.
use Rattle.std.proofs.Common.{◌≡◌, ℕ, List, [], ◌++◌, sym, ap, ◌∙◌, append_assoc}
use Rattle.std.proofs.lemmas.List.Concat.{flat_map-append}
use Rattle.md5.specs.Md5.{md5}
use Rattle.rsl_wire.specs.Attributes.{attribute_octets, attribute_of, list_octets}
use Rattle.rsl_wire.specs.DraftSeen.{Begun}
use Rattle.rsl_wire.specs.Packet.{packet_octets}
use Rattle.rsl_event.specs.Signature.{signature_attributes, signed_by}
use Rattle.rsl_event.specs.declared.signing.Signing.{Signing}
use Rattle.rsl_event.specs.declared.codes.TheConstants.{ACCESS_REQUEST, USER_NAME, CALLING_STATION_ID, NAS_IDENTIFIER}
use Rattle.rsl_script.specs.declared.request.AccessRequest.{AccessRequest}
use Rattle.rsl_replay.specs.Access.{access_octets, password_kind, password_value, request_attributes}
use Rattle.rsl_replay.specs.Attributes.{text_attribute}
use Rattle.rsl_replay.proofs.AccountingLaws.{with_attributes}

-- name, password, access server and station, after what is there
pub request_pushed : (request : AccessRequest) (name value : List ℕ) (kind : ℕ) (start a b c d : Begun)
    → name ≡ request.name → kind ≡ password_kind request.method
    → a ≡ with_attributes start (start.attributes ++ attribute_octets (attribute_of USER_NAME name))
    → b ≡ with_attributes a (a.attributes ++ attribute_octets (attribute_of kind value))
    → c ≡ with_attributes b (b.attributes ++ list_octets (text_attribute NAS_IDENTIFIER request.nas))
    → d ≡ with_attributes c (c.attributes ++ list_octets (text_attribute CALLING_STATION_ID request.station))
    → d ≡ with_attributes start (start.attributes ++ list_octets (request_attributes request value))
unfolding request_attributes
request_pushed request name value kind start a b c d en ek ea eb ec ed =
    let first : List ℕ → List ℕ = λ x. attribute_octets (attribute_of USER_NAME x) in
    let second : ℕ → List ℕ = λ x. attribute_octets (attribute_of x value) in
    let nas = list_octets (text_attribute NAS_IDENTIFIER request.nas) in
    let station = list_octets (text_attribute CALLING_STATION_ID request.station) in
    let last : list_octets (text_attribute NAS_IDENTIFIER request.nas ++ text_attribute CALLING_STATION_ID request.station) ≡ nas ++ station =
    flat_map-append attribute_octets (text_attribute NAS_IDENTIFIER request.nas) (text_attribute CALLING_STATION_ID request.station) in
    let id_is : d.id ≡ start.id = ap (λ (x : Begun). x.id) ed ∙ ap (λ (x : Begun). x.id) ec ∙ ap (λ (x : Begun). x.id) eb ∙ ap (λ (x : Begun). x.id) ea in
    let attributes_are : d.attributes ≡ start.attributes ++ (first request.name ++ (second (password_kind request.method) ++ list_octets (text_attribute NAS_IDENTIFIER request.nas ++ text_attribute CALLING_STATION_ID request.station))) =
    ap (λ (x : Begun). x.attributes) ed
    ∙ ap (λ (x : Begun). x.attributes ++ station) ec
    ∙ ap (λ (x : Begun). (x.attributes ++ nas) ++ station) eb
    ∙ ap (λ (x : Begun). ((x.attributes ++ second kind) ++ nas) ++ station) ea
    ∙ append_assoc ((start.attributes ++ first name) ++ second kind) nas station
    ∙ append_assoc (start.attributes ++ first name) (second kind) (nas ++ station)
    ∙ append_assoc start.attributes (first name) (second kind ++ (nas ++ station))
    ∙ (λ k. start.attributes ++ (first (en k) ++ (second (ek k) ++ sym last k))) in
    λ k. record { id = id_is k; attributes = attributes_are k }

-- the request, from the drafts before it
pub access_is : (request : AccessRequest) (signing : Signing) (secret value auth : List ℕ) (start first written : Begun) (result : List ℕ)
    → start ≡ record { id = request.id; attributes = [] }
    → first ≡ with_attributes start (start.attributes ++ list_octets (signature_attributes signing))
    → written ≡ with_attributes first (first.attributes ++ list_octets (request_attributes request value))
    → value ≡ password_value request.method request secret
    → auth ≡ md5 request.text
    → result ≡ signed_by signing (packet_octets (record { code = ACCESS_REQUEST; id = written.id; authenticator = auth; attributes = written.attributes })) auth secret
    → result ≡ access_octets request signing secret
unfolding access_octets
access_is request signing secret value auth start first written result e0 e1 e2 ev ea er =
    let id_is : written.id ≡ request.id = ap (λ (x : Begun). x.id) e2 ∙ ap (λ (x : Begun). x.id) e1 ∙ ap (λ (x : Begun). x.id) e0 in
    let attributes_are : written.attributes ≡ list_octets (signature_attributes signing ++ request_attributes request (password_value request.method request secret)) =
    ap (λ (x : Begun). x.attributes) e2
    ∙ ap (λ (x : Begun). x.attributes ++ list_octets (request_attributes request value)) e1
    ∙ ap (λ (x : Begun). (x.attributes ++ list_octets (signature_attributes signing)) ++ list_octets (request_attributes request value)) e0
    ∙ ap (λ (x : List ℕ). list_octets (signature_attributes signing) ++ list_octets (request_attributes request x)) ev
    ∙ sym (flat_map-append attribute_octets (signature_attributes signing) (request_attributes request (password_value request.method request secret))) in
    er ∙ (λ k. signed_by signing (packet_octets (record { code = ACCESS_REQUEST; id = id_is k; authenticator = ea k; attributes = attributes_are k })) (ea k) secret)
