-- Which datagrams are refused, and what an operator learns of one.
use Rattle.std.specs.Prelude.{ℕ, Bool, true, false, List, [], Option, Result, Ok, Err}
use Rattle.std.specs.Option.{option_or}
use Rattle.rld_counts.specs.Fates.{kind_of}
use Rattle.rld_counts.specs.declared.fate.Fate.{Fate}
use Rattle.rld_counts.specs.declared.kind.Kind.{Kind}
use Rattle.rld_counts.specs.declared.kind.Kind.TheVariants as kinds
use Rattle.rsl_event.specs.Request.{nas_name_of}
use Rattle.rsl_event.specs.Station.{if_station}
use Rattle.rsl_event.specs.declared.codes.TheConstants.{CALLING_STATION_ID, NAS_IDENTIFIER, NAS_IP_ADDRESS, NAS_IPV6_ADDRESS, USER_NAME}
use Rattle.rsl_wire.specs.Attributes.{Attribute, attribute_list, first_of}
use Rattle.rsl_wire.specs.Packet.{Fields, packet_of}
use Rattle.rsl_wire.specs.declared.packet.WireFault.{WireFault}
use Rattle.rld_look.specs.declared.refusal.Refusal.{Refusal}
use Rattle.rld_look.specs.declared.refusal.Refused.{Refused}

-- neither an accept nor an answer of the accounting port to what concerns an account
abbrev pub is_refused : Kind → Bool
is_refused kinds.Accepted = false
is_refused kinds.Accounted = false
is_refused kinds.LimitRejected = true
is_refused kinds.Rejected = true
is_refused kinds.NoAccount = true
is_refused kinds.Dropped = true
is_refused kinds.Failed = true

abbrev pub is_refusal : Fate → Bool
is_refusal fate = is_refused (kind_of fate.cause)

-- the attributes of a datagram, or none if they cannot be read
abbrev pub attributes_or_none : Result (List Attribute) ℕ → List Attribute
attributes_or_none (Ok attributes) = attributes
attributes_or_none (Err at) = []

abbrev pub attributes_by : Result Fields WireFault → List Attribute
attributes_by (Ok fields) = attributes_or_none (attribute_list fields.attributes)
attributes_by (Err fault) = []

abbrev pub attributes_of : (octets : List ℕ) → List Attribute
attributes_of octets = attributes_by (packet_of octets)

-- the address of an access server: an IPv6 address is told whatever its version of the account file knows
abbrev pub address_in : List Attribute → Option (List ℕ)
address_in attributes =
    option_or (first_of NAS_IP_ADDRESS attributes) (first_of NAS_IPV6_ADDRESS attributes)

-- the refusal of a datagram with these attributes: its station is told whatever its account says of stations
abbrev pub refusal_with : Refused → List Attribute → Refusal
refusal_with refused attributes = record {
  moment = refused.moment;
  source = refused.source;
  peer = refused.peer;
  client = refused.client;
  nas = nas_name_of (first_of NAS_IDENTIFIER attributes) (address_in attributes);
  name = first_of USER_NAME attributes;
  station = if_station (first_of CALLING_STATION_ID attributes);
  fate = refused.fate;
}

abbrev pub refusal_of : Refused → Refusal
refusal_of refused = refusal_with refused (attributes_of refused.octets.now)
