-- The answer to a Disconnect-Request (RFC 5176 sections 2.1 and 2.3).
use Rattle.std.specs.Prelude.{ℕ, ◌+◌, ◌==◌, ◌&&◌, Bool, true, List, length, count_by, Option, Some, None, Result, Ok, Err, if◌then◌else◌}
use Rattle.std.specs.Str.{bytes_eq}
use Rattle.rsl_auth.specs.Authenticator.{response_authenticator}
use Rattle.rsl_auth.specs.Signature.{signature, value_at}
use Rattle.rsl_wire.specs.Attributes.{Attribute, attribute_list, first_of, is_kind, number_in, octets_before}
use Rattle.rsl_wire.specs.Packet.{Fields, packet_octets, packet_of}
use Rattle.rsl_wire.specs.declared.packet.WireFault.{WireFault}
use Rattle.rld_control.specs.declared.answer.DisconnectAnswer.{DisconnectAnswer}
use Rattle.rld_control.specs.declared.answer.DisconnectAnswer.TheVariants.{Ack, Nak}
use Rattle.rld_control.specs.declared.codes.TheConstants.{DISCONNECT_ACK, DISCONNECT_NAK, ERROR_CAUSE, MESSAGE_AUTHENTICATOR}

-- whether the authenticator of a packet is its Response Authenticator: MD5(Code, Identifier, Length,
-- Request Authenticator, Attributes, Secret)
abbrev pub is_response : (answer : Fields) (request_auth secret : List ℕ) → Bool
is_response answer request_auth secret =
    bytes_eq answer.authenticator
    (response_authenticator (packet_octets answer) request_auth secret)

-- the offset of the value of the first Message-Authenticator in the packet: after the header of 20
-- octets, the attributes before it, its Type and its Length
abbrev pub signature_offset : List Attribute → ℕ
signature_offset attributes = 22 + octets_before MESSAGE_AUTHENTICATOR attributes

-- whether the Message-Authenticator of an answer, whose value is at an offset, is right: it is
-- computed with the authenticator of the request in place (RFC 5176 section 3.4)
unfoldable pub is_signed_for : (packet : List ℕ) (at : ℕ) (request_auth secret : List ℕ) → Bool
is_signed_for packet at request_auth secret =
    bytes_eq (value_at packet at) (signature packet at request_auth secret)

-- whether the Message-Authenticator is right, by the value of the first one: there is none, or exactly
-- one, of 16 octets, and it is that of the answer
abbrev pub is_right_value : (answer : Fields) → List Attribute → (request_auth secret : List ℕ)
    → (first : Option (List ℕ)) → Bool
is_right_value answer attributes request_auth secret None = true
is_right_value answer attributes request_auth secret (Some value) =
    length value == 16
    && count_by (is_kind MESSAGE_AUTHENTICATOR) attributes == 1
    && is_signed_for (packet_octets answer) (signature_offset attributes) request_auth secret

abbrev pub has_right_signature : (answer : Fields) → List Attribute → (request_auth secret : List ℕ)
    → Bool
has_right_signature answer attributes request_auth secret =
    is_right_value answer attributes request_auth secret (first_of MESSAGE_AUTHENTICATOR attributes)

-- whether a packet with these attributes answers a request, whatever its Code: it has its Identifier,
-- and both authenticators are computed with that of the request
abbrev pub is_answer : (request answer : Fields) → List Attribute → (secret : List ℕ) → Bool
is_answer request answer attributes secret =
    answer.id == request.id
    && is_response answer request.authenticator secret
    && has_right_signature answer attributes request.authenticator secret

-- what an answer says: a Disconnect-ACK, or a Disconnect-NAK with its first Error-Cause as a number, if
-- it has one of four octets; no other Code answers
abbrev pub answer_said : (code : ℕ) → List Attribute → Option DisconnectAnswer
answer_said code attributes =
    if code == DISCONNECT_ACK then Some Ack
    else if code == DISCONNECT_NAK then Some (Nak (number_in (first_of ERROR_CAUSE attributes)))
    else None

-- the answer by the attributes, if they are well formed
abbrev pub if_formed : (request answer : Fields) → (secret : List ℕ) → Result (List Attribute) ℕ
    → Option DisconnectAnswer
if_formed request answer secret (Err at) = None
if_formed request answer secret (Ok attributes) =
    if is_answer request answer attributes secret then answer_said answer.code attributes else None

-- the answer by the packets in both
abbrev pub if_packets : (secret : List ℕ) → (request answer : Result Fields WireFault) → Option DisconnectAnswer
if_packets secret (Err fault) answer = None
if_packets secret (Ok request) (Err fault) = None
if_packets secret (Ok request) (Ok answer) =
    if_formed request answer secret (attribute_list answer.attributes)

-- what a datagram answers to a request, if it answers it
unfoldable pub answer_of : (request secret datagram : List ℕ) → Option DisconnectAnswer
answer_of request secret datagram = if_packets secret (packet_of request) (packet_of datagram)
