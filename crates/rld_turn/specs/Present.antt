-- What is fixed for a server from one change of its accounts to the next, and the sources of peers.
use Rattle.std.specs.Prelude.{ℕ, List, Result, unwrap_or}
use Rattle.std.specs.Net.Socket.{socket_ip, socket_port}
use Rattle.std.specs.declared.net.socket_addr.SocketAddr.{SocketAddr}
use Rattle.rld_networks.specs.Networks.{client_of}
use Rattle.rld_networks.specs.declared.network.Network.{Network}
use Rattle.rsl_accounts.specs.Configuration.{Configuration}
use Rattle.rsl_event.specs.Meaning.{meaning}
use Rattle.rsl_event.specs.declared.event.Source.{Source}
use Rattle.rsl_event.specs.declared.meaning.Dropped.{Dropped}
use Rattle.rsl_event.specs.declared.meaning.Meaning.{Meaning}
use Rattle.rsl_event.specs.declared.meaning.Port.{Port}
use Rattle.rsl_port.specs.declared.datagram_port.Datagram.{Datagram}
use Rattle.rld_turn.specs.declared.origin.Origin.{Origin}
use Rattle.rld_turn.specs.declared.present.Present.{Present}

-- what the clauses see of it: accounts and clients, the networks that stand for clients, the boot
-- number, and an address that no client has, as `Present` promises
pub record ServiceSeen : Type 0 where
  pub config : Configuration
  pub networks : List Network
  pub boot : ℕ
  pub nobody : List ℕ

abbrev pub service_of : Present → ServiceSeen
service_of present = record {
  config = present.config.now;
  networks = present.networks.now;
  boot = present.boot;
  nobody = present.nobody;
}

-- the source of a peer: the address of the client that it stands for, or the unassigned one, and
-- its port
abbrev pub source_of : ServiceSeen → SocketAddr → Source
source_of service peer = record {
  address = unwrap_or (client_of service.networks (socket_ip peer)) service.nobody;
  port = socket_port peer;
}

-- a peer with its source
abbrev pub origin_of : ServiceSeen → SocketAddr → Origin
origin_of service peer = record { peer = peer; source = source_of service peer }

-- a datagram, with its peer
abbrev pub PeerDatagram : Type 0
PeerDatagram = Datagram SocketAddr

-- the meaning of a datagram on a port
abbrev pub meaning_of : ServiceSeen → Port → PeerDatagram → Result Meaning Dropped
meaning_of service port one =
    meaning service.config service.boot port (source_of service one.peer) one.octets
