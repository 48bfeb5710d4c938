-- What a port counts of its own calls: how many there were, how many failed and which went astray.
-- What it tells of its datagrams, if it tells them.
use Rattle.std.specs.Prelude.{ℕ, ◌+◌, ◌^◌, ◌<◌, ◌==◌, Bool, false, ◌&&◌, cond, List, [], ◌∷◌, take, Option, Some, None, Result, Ok, Err, is_err}
use Rattle.rsl_accounts.specs.Configuration.{same_octets}
use Rattle.rsl_event.specs.declared.event.Source.{Source}
use Rattle.rsl_port.specs.declared.datagram_port.Datagram.{Datagram}
use Rattle.rsl_port.specs.declared.datagram_port.PortFault.{PortFault}
use Rattle.rsl_port.specs.declared.datagram_port.Numbers.{Numbers}

-- the numbers of a port that has not been called
abbrev pub no_numbers : Numbers
no_numbers = record {
  receives = 0;
  failed_receives = 0;
  sends = 0;
  failed_sends = 0;
  astray = 0;
  last = None;
}

-- `calls` more calls of `receive` bring no number over 2^64 - 1
pub record CanReceive (calls : ℕ) (numbers : Numbers) : Type 0 where
  pub receives : numbers.receives + calls < 2 ^ 64
  pub failed : numbers.failed_receives + calls < 2 ^ 64

-- `calls` more calls of `send` bring no number over 2^64 - 1
pub record CanSend (calls : ℕ) (numbers : Numbers) : Type 0 where
  pub sends : numbers.sends + calls < 2 ^ 64
  pub failed : numbers.failed_sends + calls < 2 ^ 64
  pub astray : numbers.astray + calls < 2 ^ 64

-- what a call of `receive` gave: a datagram's length and peer, or none
abbrev pub Received : (Peer : Type 0) → Type 0
Received Peer = Result (Option (ℕ × Peer)) PortFault

-- a call of `receive` is counted, and so is its failure; a datagram's source becomes the last
abbrev pub after_receive : Received Source → Numbers → Numbers
after_receive (Ok (Some received)) numbers =
    record numbers { receives = numbers.receives + 1; last = Some received.1 }
after_receive (Ok None) numbers = record numbers { receives = numbers.receives + 1 }
after_receive (Err fault) numbers = record numbers {
  receives = numbers.receives + 1;
  failed_receives = numbers.failed_receives + 1;
}

-- whether a source is that of the datagram received last
abbrev pub is_last : Source → Option Source → Bool
is_last to None = false
is_last to (Some last) = same_octets to.address last.address && to.port == last.port

-- a call of `send` is counted, so is its failure, and so is one to another source than the last
abbrev pub after_send : {T : Type 0} → (to : Source) → Result T PortFault → Numbers → Numbers
after_send to sent numbers = record numbers {
  sends = numbers.sends + 1;
  failed_sends = numbers.failed_sends + cond (is_err sent) 1 0;
  astray = numbers.astray + cond (is_last to numbers.last) 0 1;
}

-- a datagram, with its peer
abbrev pub datagram_of : {Peer : Type 0} → Peer → (octets : List ℕ) → Datagram Peer
datagram_of peer octets = record { peer = peer; octets = octets }

-- the datagram that a call of `receive` took, from what is then in the buffer
abbrev pub taken_by : {Peer : Type 0} → Received Peer → (buffer : List ℕ) → List (Datagram Peer)
taken_by (Ok (Some received)) buffer =
    datagram_of received.1 (take received.0 buffer) ∷ []
taken_by (Ok None) buffer = []
taken_by (Err fault) buffer = []
