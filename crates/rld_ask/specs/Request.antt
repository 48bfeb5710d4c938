-- The Access-Request that an ask is (RFC 2865 section 4.1): without a password, so that only a client whose
-- asks are trusted may send it.
use Rattle.std.specs.Prelude.{ℕ, ◌≤◌, List, [], ◌∷◌, ◌++◌, length, Option, Some, None, IfSome, slice_index}
use Rattle.md5.specs.Md5.{md5}
use Rattle.rsl_auth.specs.Signature.{signed}
use Rattle.rsl_wire.specs.Attributes.{Attribute, attribute_of, list_octets}
use Rattle.rsl_wire.specs.Packet.{packet_octets}
use Rattle.rsl_event.specs.Signature.{unsigned_signature}
use Rattle.rsl_event.specs.declared.codes.TheConstants.{ACCESS_REQUEST, USER_NAME, NAS_IDENTIFIER, NAS_IP_ADDRESS}
use Rattle.rld_ask.specs.declared.form.AskForm.{AskForm}
use Rattle.rld_ask.specs.declared.request.TheConstants.{CALLING_STATION_ID}

-- what a form that was read keeps
pub record IsShort (ask : AskForm) : Type 0 where
  pub name : length ask.name ≤ 253
  pub identifier : IfSome ask.nas_identifier (λ octets. length octets ≤ 253)
  pub address : IfSome ask.nas_ip_address (λ octets. length octets ≤ 253)
  pub station : IfSome ask.calling_station_id (λ octets. length octets ≤ 253)

-- an attribute that is there if its value is
abbrev pub some_attribute : (kind : ℕ) → Option (List ℕ) → List Attribute
some_attribute kind None = []
some_attribute kind (Some value) = attribute_of kind value ∷ []

-- the attributes after the Message-Authenticator
unfoldable pub ask_attributes : AskForm → List Attribute
ask_attributes ask =
    attribute_of USER_NAME ask.name
    ∷ (some_attribute NAS_IDENTIFIER ask.nas_identifier
    ++ (some_attribute NAS_IP_ADDRESS ask.nas_ip_address
    ++ some_attribute CALLING_STATION_ID ask.calling_station_id))

-- with the Message-Authenticator, of which the value is not known yet
abbrev pub request_attributes : AskForm → List Attribute
request_attributes ask = unsigned_signature ∷ ask_attributes ask

-- the octets that the client with this secret would have sent: the Request Authenticator is the digest of the
-- key, the Identifier its first octet, and the Message-Authenticator stands first
unfoldable pub ask_octets : AskForm → (secret : List ℕ) → List ℕ
ask_octets ask secret =
    signed
    (packet_octets (record {
      code = ACCESS_REQUEST;
      id = slice_index (md5 ask.key) 0;
      authenticator = md5 ask.key;
      attributes = list_octets (request_attributes ask);
    }))
    22 (md5 ask.key) secret
