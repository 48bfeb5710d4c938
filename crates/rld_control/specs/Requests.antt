-- The Disconnect-Request by which an access server is asked to end a session (RFC 5176 section 2.3).
use Rattle.std.specs.Prelude.{◌≡◌, ℕ, List, [], ◌∷◌, ◌++◌, replicate, Some}
use Rattle.std.specs.Int.{w32, to_be_bytes}
use Rattle.rsl_accounts.specs.Configuration.{Configuration, client_number}
use Rattle.rsl_wire.specs.Attributes.{Attribute, attribute_of}
use Rattle.rsl_event.specs.Request.{secret_of}
use Rattle.rsl_event.specs.declared.nas.NasName.{NasName}
use Rattle.rsl_event.specs.declared.nas.NasName.TheVariants.{Identifier, Address, Unnamed}
use Rattle.rld_control.specs.RequestOctets.{address_kind, sealed_octets}
use Rattle.rld_control.specs.declared.codes.TheConstants.{USER_NAME, NAS_IDENTIFIER, ACCT_SESSION_ID, EVENT_TIMESTAMP, MESSAGE_AUTHENTICATOR}
use Rattle.rld_control.specs.declared.named.NamedSession.{NamedSession}

-- the name of an access server; an address of 16 octets is a NAS-IPv6-Address
abbrev pub nas_attributes : NasName → List Attribute
nas_attributes (Identifier name) = attribute_of NAS_IDENTIFIER name ∷ []
nas_attributes (Address address) = attribute_of (address_kind address) address ∷ []
nas_attributes Unnamed = []

-- the attributes, of which the last is a Message-Authenticator before its value is known
abbrev pub named_attributes : NamedSession → (moment : ℕ) → List Attribute
named_attributes named moment =
    (attribute_of USER_NAME named.account ∷ [])
    ++ nas_attributes named.nas
    ++ (attribute_of ACCT_SESSION_ID named.session
    ∷ attribute_of EVENT_TIMESTAMP (to_be_bytes w32 moment)
    ∷ attribute_of MESSAGE_AUTHENTICATOR (replicate 16 0)
    ∷ [])

abbrev pub named_octets : NamedSession → (identifier moment : ℕ) → (secret : List ℕ) → List ℕ
named_octets named identifier moment secret = sealed_octets identifier (named_attributes named moment) secret

-- the request for the session that is named, sealed with the secret of its client
pub record IsRequestFor (config : Configuration) (named : NamedSession) (identifier moment : ℕ) (octets : List ℕ)
    : Type 0 where
  pub client : ℕ
  pub known : client_number config named.client ≡ Some client
  pub is : octets ≡ named_octets named identifier moment (secret_of config client)
