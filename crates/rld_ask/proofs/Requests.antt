-- A request, written attribute by attribute.
use Rattle.std.proofs.Common.{◌≡◌, ℕ, List, [], ◌∷◌, ap, sym, ◌∙◌}
use Rattle.std.proofs.lemmas.List.Concat.{flat_map-append}
use Rattle.std.specs.Prelude.{slice_index}
use Rattle.md5.specs.Md5.{md5}
use Rattle.rsl_auth.specs.Signature.{signed}
use Rattle.rsl_wire.specs.Attributes.{Attribute, attribute_octets, list_octets}
use Rattle.rsl_wire.specs.DraftSeen.{Begun}
use Rattle.rsl_event.specs.Draft.{with_more}
use Rattle.rsl_event.specs.Signature.{signature_attributes, unsigned_signature}
use Rattle.rsl_event.specs.declared.codes.TheConstants.{ACCESS_REQUEST}
use Rattle.rsl_event.specs.declared.signing.Signing.TheVariants.{Signed}
use Rattle.rsl_wire.specs.Packet.{packet_octets}
use Rattle.rld_ask.specs.Request.{ask_octets, request_attributes}
use Rattle.rld_ask.specs.declared.form.AskForm.{AskForm}

abbrev begun : ℕ → List ℕ → Begun
begun id octets = record { id = id; attributes = octets }

-- the signature's place first, and then the others
pub draft_written : (id : ℕ) (attributes : List Attribute) (start second whole : Begun)
    → start ≡ record { id = id; attributes = [] }
    → second ≡ with_more start (list_octets (signature_attributes Signed))
    → whole ≡ with_more second (list_octets attributes)
    → whole ≡ record { id = id; attributes = list_octets (unsigned_signature ∷ attributes) }
draft_written id attributes start second whole first next last =
    let place : second ≡ begun id (list_octets (unsigned_signature ∷ [])) =
    next ∙ ap (λ (draft : Begun). with_more draft (list_octets (signature_attributes Signed))) first in
    last
    ∙ (ap (λ (draft : Begun). with_more draft (list_octets attributes)) place
    ∙ ap (begun id) (sym (flat_map-append attribute_octets (unsigned_signature ∷ []) attributes)))

-- the header, by the digest of the key, and the signature
pub request_written : (ask : AskForm) (secret digest octets : List ℕ) (draft : Begun)
    → digest ≡ md5 ask.key
    → draft ≡ record { id = slice_index digest 0; attributes = list_octets (request_attributes ask) }
    → octets ≡ signed (packet_octets (record { code = ACCESS_REQUEST; id = draft.id; authenticator = digest; attributes = draft.attributes })) 22 digest secret
    → octets ≡ ask_octets ask secret
unfolding ask_octets
request_written ask secret digest octets draft is starts written =
    written
    ∙ (ap (λ (one : Begun). signed (packet_octets (record { code = ACCESS_REQUEST; id = one.id; authenticator = digest; attributes = one.attributes })) 22 digest secret) starts
    ∙ ap (λ (key : List ℕ). signed (packet_octets (record { code = ACCESS_REQUEST; id = slice_index key 0; authenticator = key; attributes = list_octets (request_attributes ask) })) 22 key secret) is)
