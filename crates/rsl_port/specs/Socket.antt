-- What a read of a UDP socket is to a port.
use Rattle.std.specs.Prelude.{◌≡◌, ℕ, min, Bool, true, false, Option, Some, None, Result, Ok, Err, is_err}
use Rattle.std.specs.IoError.{error_kind}
use Rattle.std.specs.Net.Addr.{ipv4_octets}
use Rattle.std.specs.Net.Socket.{v4_ip, v4_port}
use Rattle.std.specs.declared.io.Error.{Error}
use Rattle.std.specs.declared.io.ErrorKind.{ErrorKind}
use Rattle.std.specs.declared.io.ErrorKind.TheVariants.{Interrupted, OutOfMemory, TimedOut, WouldBlock}
use Rattle.std.specs.declared.net.socket_addr.SocketAddr.{SocketAddr}
use Rattle.std.specs.declared.net.socket_addr.SocketAddr.TheVariants.{V4, V6}
use Rattle.rsl_event.specs.declared.event.Source.{Source}
use Rattle.rsl_port.specs.Told.{Received}

-- the address and port of an IPv4 socket address; any other is no source
abbrev pub source_in : SocketAddr → Option Source
source_in (V4 from) = Some (record { address = ipv4_octets (v4_ip from); port = v4_port from })
source_in (V6 from) = None

-- the faults of a read that only end a turn without a datagram: none came in time, the wait was
-- interrupted, or the system had no memory for it
abbrev pub is_passing : ErrorKind → Bool
is_passing WouldBlock = true
is_passing TimedOut = true
is_passing Interrupted = true
is_passing OutOfMemory = true
is_passing kind = false

-- `len` octets from a source, if there is one
abbrev pub octets_from : (len : ℕ) → Option Source → Option (ℕ × Source)
octets_from len (Some source) = Some (len, source)
octets_from len None = None

-- no datagram if the fault passes, and else a fault of the port
abbrev pub IsFailed : (passing : Bool) → Received Source → Type 0
IsFailed true received = received ≡ Ok None
IsFailed false received = is_err received ≡ true

-- a port gives what a read gave, into a buffer of `room` octets
abbrev pub IsReception : (room : ℕ) → Result (ℕ × SocketAddr) Error → Received Source → Type 0
IsReception room (Ok read) received = received ≡ Ok (octets_from (min read.0 room) (source_in read.1))
IsReception room (Err error) received = IsFailed (is_passing (error_kind error)) received
