-- What counters and log lines say of a request beyond its meaning.
use Rattle.std.specs.Prelude.{◌≡◌, ℕ, List, option_and_then, Option, Some, None, Result, Ok, Err}
use Rattle.rsl_accounts.specs.Configuration.{Configuration, client_number}
use Rattle.rsl_wire.specs.Attributes.{Attribute, attribute_list, first_of, number_in}
use Rattle.rsl_wire.specs.Packet.{Fields, packet_of}
use Rattle.rsl_wire.specs.declared.packet.WireFault.{WireFault}
use Rattle.rsl_event.specs.Cause.{request_cause}
use Rattle.rsl_event.specs.Meaning.{Fails}
use Rattle.rsl_event.specs.Status.{status_of}
use Rattle.rsl_event.specs.declared.codes.TheConstants.{ACCT_STATUS_TYPE}
use Rattle.rsl_event.specs.declared.detail.Detail.{Detail}
use Rattle.rsl_event.specs.declared.detail.Detail.TheVariants.{Asks, Rejected, Accounting}
use Rattle.rsl_event.specs.declared.detail.RejectCause.{RejectCause}
use Rattle.rsl_event.specs.declared.event.Source.{Source}
use Rattle.rsl_event.specs.declared.meaning.Dropped.{Dropped}
use Rattle.rsl_event.specs.declared.meaning.Meaning.{Meaning}
use Rattle.rsl_event.specs.declared.meaning.Port.{Port}
use Rattle.rsl_event.specs.declared.meaning.Port.TheVariants.{Auth, Acct}
use Rattle.rsl_event.specs.declared.status.Status.{Status}

-- an Access-Request that is rejected for this cause, or that asks
abbrev pub detail_by : (cause : Option RejectCause) → Detail
detail_by None = Asks
detail_by (Some cause) = Rejected cause

-- the status of an Accounting-Request: that of its first Acct-Status-Type, if it is known (RFC 2866
-- section 5.1)
abbrev pub listed_status : Result (List Attribute) ℕ → Option Status
listed_status (Err at) = None
listed_status (Ok attributes) =
    option_and_then status_of (number_in (first_of ACCT_STATUS_TYPE attributes))

abbrev pub request_status : Fields → Option Status
request_status fields = listed_status (attribute_list fields.attributes)

-- the detail of a request of a client
abbrev pub packet_detail : Configuration → Port → (client : ℕ) → Fields → Detail
packet_detail config Auth client fields = detail_by (request_cause config client fields)
packet_detail config Acct client fields = Accounting (request_status fields)

-- the detail by the client that has the source's address
abbrev pub if_client : Configuration → Port → Fields → (client : Option ℕ) → Option Detail
if_client config port fields None = None
if_client config port fields (Some client) = Some (packet_detail config port client fields)

-- the detail by the packet in the datagram
abbrev pub if_packet : Configuration → Port → Source → Result Fields WireFault → Option Detail
if_packet config port source (Err fault) = None
if_packet config port source (Ok fields) =
    if_client config port fields (client_number config source.address)

-- the detail of a datagram from a source to a port, if it is a packet of a client
abbrev pub detail_of : Configuration → Port → Source → (datagram : List ℕ) → Option Detail
detail_of config port source datagram = if_packet config port source (packet_of datagram)

-- a meaning with its detail, or why there is none, is as the meaning is defined
abbrev pub GivesDetailed : Result (Meaning × Detail) Dropped → Result Meaning Dropped → Type 0
GivesDetailed (Ok found) defined = defined ≡ Ok found.0
GivesDetailed (Err dropped) defined = Fails dropped defined
