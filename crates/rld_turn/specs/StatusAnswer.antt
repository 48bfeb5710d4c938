-- Status-Server (RFC 5997): which packets are answered, and the answers.
use Rattle.std.specs.Prelude.{ℕ, ◌==◌, ◌&&◌, nat_le, Bool, List, ◌++◌, replicate, if◌then◌else◌, Option, Some, None, Result, Ok, Err}
use Rattle.rsl_accounts.specs.Configuration.{Configuration, client_number}
use Rattle.rsl_auth.specs.Authenticator.{sealed}
use Rattle.rsl_event.specs.Request.{proxy_len, proxy_states, secret_of}
use Rattle.rsl_event.specs.Signature.{has_right_signature, signature_attributes, signed_by}
use Rattle.rsl_event.specs.declared.codes.TheConstants.{ACCESS_ACCEPT, ACCOUNTING_RESPONSE, MAX_PROXY_STATE_LEN}
use Rattle.rsl_event.specs.declared.meaning.Port.{Port}
use Rattle.rsl_event.specs.declared.meaning.Port.TheVariants.{Auth, Acct}
use Rattle.rsl_event.specs.declared.signing.Signing.{Signing}
use Rattle.rsl_event.specs.declared.signing.Signing.TheVariants.{Plain, Signed}
use Rattle.rsl_wire.specs.Attributes.{Attribute, attribute_list, list_octets}
use Rattle.rsl_wire.specs.Packet.{Fields, packet_octets, packet_of}
use Rattle.rsl_wire.specs.declared.packet.WireFault.{WireFault}
use Rattle.rld_turn.specs.declared.status_request.TheConstants.{STATUS_SERVER}

-- a Status-Server packet with a right Message-Authenticator, whose Proxy-States fit a reply
abbrev pub is_answered : Configuration → (client : ℕ) → Fields → List Attribute → Bool
is_answered config client fields attributes =
    fields.code == STATUS_SERVER
    && has_right_signature fields attributes (secret_of config client)
    && nat_le (proxy_len attributes) MAX_PROXY_STATE_LEN

-- the Code of the answer, and whether it has a Message-Authenticator
abbrev pub code_of : Port → ℕ
code_of Auth = ACCESS_ACCEPT
code_of Acct = ACCOUNTING_RESPONSE

abbrev pub signing_of : Port → Signing
signing_of Auth = Signed
signing_of Acct = Plain

-- the octets of the answer: a Message-Authenticator first, if it has one, then the Proxy-States in
-- order; signed and sealed with the client's secret
unfoldable pub answer_with : Configuration → Port → (client : ℕ) → Fields → List Attribute → List ℕ
answer_with config port client fields attributes =
    sealed
    (signed_by (signing_of port)
    (packet_octets (record {
      code = code_of port;
      id = fields.id;
      authenticator = replicate 16 0;
      attributes =
          list_octets (signature_attributes (signing_of port) ++ proxy_states attributes);
    }))
    fields.authenticator (secret_of config client))
    fields.authenticator (secret_of config client)

-- the answer by the attributes, if they are well formed
abbrev pub if_formed : Configuration → Port → (client : ℕ) → Fields → Result (List Attribute) ℕ
    → Option (List ℕ)
if_formed config port client fields (Err at) = None
if_formed config port client fields (Ok attributes) =
    if is_answered config client fields attributes
    then Some (answer_with config port client fields attributes) else None

-- the answer by the client, if one has the address
abbrev pub if_client : Configuration → Port → Fields → (client : Option ℕ) → Option (List ℕ)
if_client config port fields None = None
if_client config port fields (Some client) =
    if_formed config port client fields (attribute_list fields.attributes)

-- the answer by the packet in the datagram
abbrev pub if_packet : Configuration → Port → (address : List ℕ) → Result Fields WireFault
    → Option (List ℕ)
if_packet config port address (Err fault) = None
if_packet config port address (Ok fields) =
    if_client config port fields (client_number config address)

-- the answer to a datagram from an address to a port, if it is answered
unfoldable pub status_answer : Configuration → Port → (address datagram : List ℕ) → Option (List ℕ)
status_answer config port address datagram = if_packet config port address (packet_of datagram)
