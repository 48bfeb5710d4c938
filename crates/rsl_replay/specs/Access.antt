-- The Access-Request that a line stands for (RFC 2865 section 4.1). Its Request Authenticator is
-- the digest of the line without its moment. That of a client whose requests must be signed has a
-- Message-Authenticator as its first attribute (RFC 3579 section 3.2).
use Rattle.std.specs.Prelude.{ℕ, List, ◌∷◌, ◌++◌}
use Rattle.md5.specs.Md5.{md5}
use Rattle.rsl_auth.specs.Chap.{chap_response}
use Rattle.rsl_auth.specs.Password.{hidden}
use Rattle.rsl_event.specs.Signature.{signature_attributes, signed_by}
use Rattle.rsl_event.specs.declared.signing.Signing.{Signing}
use Rattle.rsl_event.specs.declared.codes.TheConstants.{ACCESS_REQUEST, USER_NAME, USER_PASSWORD, CHAP_PASSWORD, CALLING_STATION_ID, NAS_IDENTIFIER}
use Rattle.rsl_wire.specs.Attributes.{Attribute, attribute_of, list_octets}
use Rattle.rsl_wire.specs.Packet.{packet_octets}
use Rattle.rsl_replay.specs.Attributes.{text_attribute}
use Rattle.rsl_script.specs.declared.request.AccessRequest.{AccessRequest}
use Rattle.rsl_script.specs.declared.request.Method.{Method}
use Rattle.rsl_script.specs.declared.request.Method.TheVariants.{Pap, Chap}

-- the password attribute: the challenge of a CHAP-Password is the Request Authenticator
abbrev pub password_kind : Method → ℕ
password_kind Pap = USER_PASSWORD
password_kind Chap = CHAP_PASSWORD

abbrev pub password_value : Method → AccessRequest → (secret : List ℕ) → List ℕ
password_value Pap request secret = hidden request.password secret (md5 request.text)
password_value Chap request secret =
    request.id ∷ chap_response request.id request.password (md5 request.text)

-- the attributes of the request, with this value for its password
unfoldable pub request_attributes : AccessRequest → (password : List ℕ) → List Attribute
request_attributes request password =
    attribute_of USER_NAME request.name
    ∷ attribute_of (password_kind request.method) password
    ∷ text_attribute NAS_IDENTIFIER request.nas
    ++ text_attribute CALLING_STATION_ID request.station

-- the octets of the request to a server that shares this secret
unfoldable pub access_octets : AccessRequest → Signing → (secret : List ℕ) → List ℕ
access_octets request signing secret =
    signed_by signing
    (packet_octets (record {
      code = ACCESS_REQUEST;
      id = request.id;
      authenticator = md5 request.text;
      attributes =
          list_octets (signature_attributes signing
          ++ request_attributes request (password_value request.method request secret));
    }))
    (md5 request.text) secret
