-- The sockets that a server's file asks for.
use Rattle.std.specs.Prelude.{ℕ, Bool}
use Rattle.std.specs.Net.Socket.{socket_ip, socket_port}
use Rattle.std.specs.declared.net.ip_addr.IpAddr.{IpAddr}
use Rattle.rld_config.specs.declared.listen.Listen.{Listen}
use Rattle.rld_edges.specs.declared.sockets.Bound.{Bound}
use Rattle.rld_edges.specs.declared.sockets.Pair.{Pair}

-- where a socket is bound, and whether it answers Status-Server packets
pub record BoundSeen : Type 0 where
  pub address : IpAddr
  pub port : ℕ
  pub status_server : Bool

abbrev pub bound_seen : Bound → BoundSeen
bound_seen bound = record {
  address = socket_ip bound.address;
  port = socket_port bound.address;
  status_server = bound.status_server;
}

-- the two sockets of a `[[listen]]`
pub record PairSeen : Type 0 where
  pub address : IpAddr
  pub auth_port : ℕ
  pub acct_port : ℕ
  pub auth : BoundSeen
  pub acct : BoundSeen
  pub receivers : ℕ

abbrev pub pair_seen : Pair → PairSeen
pair_seen pair = record {
  address = pair.address;
  auth_port = pair.auth_port;
  acct_port = pair.acct_port;
  auth = bound_seen pair.auth;
  acct = bound_seen pair.acct;
  receivers = pair.receivers;
}

-- the socket at a port of a `[[listen]]`
abbrev pub bound_for : Listen → (port : ℕ) → BoundSeen
bound_for listen port = record {
  address = listen.address;
  port = port;
  status_server = listen.status_server;
}

-- the sockets that a `[[listen]]` asks for
abbrev pub pair_for : Listen → PairSeen
pair_for listen = record {
  address = listen.address;
  auth_port = listen.auth;
  acct_port = listen.acct;
  auth = bound_for listen listen.auth;
  acct = bound_for listen listen.acct;
  receivers = listen.receivers;
}
