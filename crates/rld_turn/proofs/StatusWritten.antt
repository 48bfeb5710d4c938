-- The answer to a Status-Server packet, from the drafts before it.
use Rattle.std.proofs.Common.{◌≡◌, ℕ, List, [], ◌++◌, Some, Option, sym, ap, ◌∙◌}
use Rattle.std.specs.Prelude.{replicate, slice_get}
use Rattle.std.specs.Option.{option_map_or}
use Rattle.std.proofs.lemmas.List.Concat.{flat_map-append}
use Rattle.rsl_accounts.specs.Configuration.{Configuration}
use Rattle.rsl_accounts.specs.declared.client.Client.{Client}
use Rattle.rsl_auth.specs.Authenticator.{sealed}
use Rattle.rsl_event.specs.Draft.{with_more}
use Rattle.rsl_event.specs.Request.{proxy_states, secret_of}
use Rattle.rsl_event.specs.Signature.{signature_attributes, signed_by}
use Rattle.rsl_event.specs.declared.meaning.Port.{Port}
use Rattle.rsl_event.specs.declared.signing.Signing.{Signing}
use Rattle.rsl_wire.specs.Attributes.{Attribute, attribute_octets, list_octets}
use Rattle.rsl_wire.specs.DraftSeen.{Begun}
use Rattle.rsl_wire.specs.Packet.{Fields, packet_octets}
use Rattle.rld_turn.specs.StatusAnswer.{answer_with, code_of, signing_of}

-- the attributes, from the drafts before
written : (id : ℕ) (signature repeated : List Attribute) (start first second : Begun) → start ≡ record { id = id; attributes = [] }
    → first ≡ with_more start (list_octets signature) → second ≡ with_more first (list_octets repeated)
    → second ≡ record { id = id; attributes = list_octets (signature ++ repeated) }
written id signature repeated start first second e0 e1 e2 =
    let id_is : second.id ≡ id = ap (λ (x : Begun). x.id) e2 ∙ ap (λ (x : Begun). x.id) e1 ∙ ap (λ (x : Begun). x.id) e0 in
    let first_is : first.attributes ≡ list_octets signature = ap (λ (x : Begun). x.attributes) e1 ∙ ap (λ (x : Begun). x.attributes ++ list_octets signature) e0 in
    let second_is : second.attributes ≡ list_octets (signature ++ repeated) = ap (λ (x : Begun). x.attributes) e2 ∙ ap (λ (x : List ℕ). x ++ list_octets repeated) first_is ∙ sym (flat_map-append attribute_octets signature repeated) in
    λ k. record { id = id_is k; attributes = second_is k }

pub answered : (config : Configuration) (port : Port) (client : ℕ) (fields : Fields) (attributes : List Attribute) (code : ℕ) (signing : Signing)
    (start first second : Begun) (packet secret result : List ℕ) (found : Client)
    → start ≡ record { id = fields.id; attributes = [] } → first ≡ with_more start (list_octets (signature_attributes signing))
    → second ≡ with_more first (list_octets (proxy_states attributes))
    → signing ≡ signing_of port → code ≡ code_of port
    → slice_get config.clients client ≡ Some found → secret ≡ found.secret
    → packet ≡ signed_by signing (packet_octets (record { code = code; id = second.id; authenticator = replicate 16 0; attributes = second.attributes })) fields.authenticator secret
    → result ≡ sealed packet fields.authenticator secret
    → result ≡ answer_with config port client fields attributes
unfolding answer_with
answered config port client fields attributes code signing start first second packet secret result found e0 e1 e2 eg ec ef es ep er =
    let repeated = proxy_states attributes in
    let secret_is : secret ≡ secret_of config client = es ∙ sym (ap (λ (o : Option Client). option_map_or (λ c. c.secret) o []) ef) in
    let second_is = written fields.id (signature_attributes signing) repeated start first second e0 e1 e2 in
    let as_written = ap (λ (x : Begun). packet_octets (record { code = code; id = x.id; authenticator = replicate 16 0; attributes = x.attributes })) second_is in
    let unsigned = as_written ∙ (λ k. packet_octets (record { code = ec k; id = fields.id; authenticator = replicate 16 0; attributes = list_octets (signature_attributes (eg k) ++ repeated) })) in
    let packet_is = ep ∙ (λ k. signed_by (eg k) (unsigned k) fields.authenticator (secret_is k)) in
    er ∙ (λ k. sealed (packet_is k) fields.authenticator (secret_is k))
