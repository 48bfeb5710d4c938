-- A Disconnect-Request (RFC 5176 section 2.3), by which an access server is asked to end a session.
use Rattle.std.specs.Prelude.{ℕ, ◌-◌, ◌≤◌, ◌==◌, ◌&&◌, ◌||◌, nat_le, Bool, true, List, [], ◌∷◌, ◌++◌, length, replicate, Option, Some, None, if◌then◌else◌}
use Rattle.std.specs.Int.{w32, to_be_bytes}
use Rattle.rsl_auth.specs.Authenticator.{sealed}
use Rattle.rsl_auth.specs.Signature.{signed}
use Rattle.rsl_wire.specs.Attributes.{Attribute, attribute_of, list_octets}
use Rattle.rsl_wire.specs.Packet.{packet_octets}
use Rattle.rld_control.specs.declared.codes.TheConstants.{DISCONNECT_REQUEST, USER_NAME, NAS_IP_ADDRESS, NAS_IDENTIFIER, ACCT_SESSION_ID, EVENT_TIMESTAMP, MESSAGE_AUTHENTICATOR, NAS_IPV6_ADDRESS}
use Rattle.rld_control.specs.declared.request_fault.RequestFault.{RequestFault}
use Rattle.rld_control.specs.declared.request_fault.RequestFault.TheVariants as faults
use Rattle.rld_control.specs.declared.disconnect.DisconnectRequest.{DisconnectRequest}
use Rattle.rld_control.specs.declared.server_name.ServerName.{ServerName}
use Rattle.rld_control.specs.declared.server_name.ServerName.TheVariants.{Identifier, Address, Unnamed}

-- whether octets can be the value of a name or an id: there are 1 to 253
abbrev pub is_value : List ℕ → Bool
is_value octets = nat_le 1 (length octets) && nat_le (length octets) 253

-- whether an attribute can have the name of an access server
abbrev pub is_server_name : ServerName → Bool
is_server_name (Identifier name) = is_value name.now
is_server_name (Address address) = length address.now == 4 || length address.now == 16
is_server_name Unnamed = true

-- why there is no request with these values, if there is none
abbrev pub request_fault : DisconnectRequest → Option RequestFault
request_fault request =
    if is_value request.user_name.now
    then (if is_server_name request.server
    then (if is_value request.session.now then None else Some faults.SessionId)
    else Some faults.ServerName)
    else Some faults.UserName

-- the Type of an address: of 16 octets it is a NAS-IPv6-Address
abbrev pub address_kind : (address : List ℕ) → ℕ
address_kind address = if length address == 16 then NAS_IPV6_ADDRESS else NAS_IP_ADDRESS

-- the name of an access server
abbrev pub server_attributes : ServerName → List Attribute
server_attributes (Identifier name) = attribute_of NAS_IDENTIFIER name.now ∷ []
server_attributes (Address address) = attribute_of (address_kind address.now) address.now ∷ []
server_attributes Unnamed = []

-- the attributes, of which the last is a Message-Authenticator before its value is known
abbrev pub request_attributes : DisconnectRequest → List Attribute
request_attributes request =
    attribute_of USER_NAME request.user_name.now
    ∷ server_attributes request.server
    ++ (attribute_of ACCT_SESSION_ID request.session.now
    ∷ attribute_of EVENT_TIMESTAMP (to_be_bytes w32 request.moment)
    ∷ attribute_of MESSAGE_AUTHENTICATOR (replicate 16 0)
    ∷ [])

-- the packet before it is signed and sealed: the Request Authenticator counts as sixteen zero octets
abbrev pub unsealed_octets : (identifier : ℕ) → List Attribute → List ℕ
unsealed_octets identifier attributes = packet_octets (record {
  code = DISCONNECT_REQUEST;
  id = identifier;
  authenticator = replicate 16 0;
  attributes = list_octets attributes;
})

-- a packet with the value of its Message-Authenticator, which is its last sixteen octets: it is
-- computed before the Request Authenticator, which counts as zeros (RFC 5176 section 3.4)
abbrev pub signed_octets : (packet secret : List ℕ) → List ℕ
signed_octets packet secret = signed packet (length packet - 16) (replicate 16 0) secret

-- a request with these attributes, signed and then sealed as an Accounting-Request is (RFC 5176
-- section 2.3)
unfoldable pub sealed_octets : (identifier : ℕ) → List Attribute → (secret : List ℕ) → List ℕ
sealed_octets identifier attributes secret =
    sealed (signed_octets (unsealed_octets identifier attributes) secret) (replicate 16 0) secret

-- the octets of a request
abbrev pub request_octets : DisconnectRequest → List ℕ
request_octets request =
    sealed_octets request.identifier (request_attributes request) request.secret.now

-- no value has over 253 octets
abbrev pub IsShortName : ServerName → Type 0
IsShortName (Identifier name) = length name.now ≤ 253
IsShortName (Address address) = length address.now ≤ 253
IsShortName Unnamed = Unit {0}

pub record HasShortValues (request : DisconnectRequest) : Type 0 where
  pub user_name : length request.user_name.now ≤ 253
  pub server : IsShortName request.server
  pub session : length request.session.now ≤ 253
