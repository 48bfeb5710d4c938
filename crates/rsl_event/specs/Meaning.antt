-- The meaning of a datagram, or why it is dropped: the first cause in the order of the checks.
use Rattle.std.specs.Prelude.{◌≡◌, ℕ, List, Option, Some, None, Result, Ok, Err}
use Rattle.rsl_accounts.specs.Configuration.{Configuration, client_number}
use Rattle.rsl_wire.specs.Packet.{Fields, packet_of}
use Rattle.rsl_wire.specs.declared.packet.WireFault.{WireFault}
use Rattle.rsl_wire.specs.declared.packet.WireFault.TheVariants as wire
use Rattle.rsl_event.specs.Access.{access_meaning}
use Rattle.rsl_event.specs.Accounting.{accounting_meaning}
use Rattle.rsl_event.specs.Copied.{TakesMemory}
use Rattle.rsl_event.specs.declared.event.Source.{Source}
use Rattle.rsl_event.specs.declared.meaning.Port.{Port}
use Rattle.rsl_event.specs.declared.meaning.Port.TheVariants.{Auth, Acct}
use Rattle.rsl_event.specs.declared.meaning.Meaning.{Meaning}
use Rattle.rsl_event.specs.declared.meaning.Dropped.{Dropped}
use Rattle.rsl_event.specs.declared.meaning.Dropped.TheVariants as drops

-- the meaning of a packet of a client
abbrev pub packet_meaning : Configuration → (boot : ℕ) → Port → Source → Fields → (client : ℕ)
    → Result Meaning Dropped
packet_meaning config boot Auth source fields client = access_meaning config source client fields
packet_meaning config boot Acct source fields client = accounting_meaning config boot client fields

-- the meaning by the client that has the source's address
abbrev pub if_client : Configuration → (boot : ℕ) → Port → Source → Fields → (client : Option ℕ)
    → Result Meaning Dropped
if_client config boot port source fields None = Err drops.UnknownClient
if_client config boot port source fields (Some client) =
    packet_meaning config boot port source fields client

-- the meaning by the packet in the datagram
abbrev pub if_packet : Configuration → (boot : ℕ) → Port → Source → Result Fields WireFault
    → Result Meaning Dropped
if_packet config boot port source (Err wire.Short) = Err drops.Short
if_packet config boot port source (Err wire.BadLength) = Err drops.BadLength
if_packet config boot port source (Ok fields) =
    if_client config boot port source fields (client_number config source.address)

-- the meaning of a datagram from a source to a port
unfoldable pub meaning : Configuration → (boot : ℕ) → Port → Source → (datagram : List ℕ)
    → Result Meaning Dropped
meaning config boot port source datagram = if_packet config boot port source (packet_of datagram)

-- A drop is as it is defined. Memory is refused only if there is a meaning with octets of its own.
abbrev pub Fails : Dropped → Result Meaning Dropped → Type 0
Fails drops.NoMemory defined = TakesMemory defined
Fails dropped defined = defined ≡ Err dropped

-- a meaning, or why there is none, is as it is defined
abbrev pub Gives : Result Meaning Dropped → Result Meaning Dropped → Type 0
Gives (Ok found) defined = defined ≡ Ok found
Gives (Err dropped) defined = Fails dropped defined
