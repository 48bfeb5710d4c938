-- The requests of asks.
use Rattle.std.specs.Prelude.{◌≡◌, ℕ, List, [], ◌++◌, map, slice_get, IfSome, MatchOption}
use Rattle.std.specs.Net.Addr.{ipv4_octets}
use Rattle.std.specs.Net.Socket.{socket_ip, socket_port}
use Rattle.std.specs.declared.net.ip_addr.IpAddr.TheVariants.{V4}
use Rattle.std.specs.declared.net.ipv4_addr.Ipv4Addr.{Ipv4Addr}
use Rattle.std.specs.declared.net.socket_addr.SocketAddr.{SocketAddr}
use Rattle.rsl_port.specs.Told.{datagram_of}
use Rattle.rld_ask.specs.Request.{ask_octets}
use Rattle.rld_ask.specs.declared.form.AskForm.{AskForm}
use Rattle.rld_turn.specs.Present.{PeerDatagram}
use Rattle.rsl_accounts.specs.Configuration.{Configuration, client_number}

-- the requests of the first of these asks, in their order, as a client with this secret would have sent them
pub record AreFirst (secret : List ℕ) (asks : List AskForm) (requests : List (List ℕ)) : Type 0 where
  pub others : List (List ℕ)
  pub are : map (λ (ask : AskForm). ask_octets ask secret) asks ≡ requests ++ others

-- the same, of the client with this address; none, where no client has it
abbrev pub AreRequests : Configuration → (client : List ℕ) → List AskForm → (requests : List (List ℕ)) → Type 0
AreRequests config client asks requests =
    MatchOption (client_number config client) (requests ≡ [])
    (λ number. IfSome (slice_get config.clients number) (λ one. AreFirst one.secret asks requests))

-- the peer that these requests come from: this address, at port 0, which no datagram of a network has
pub record IsPeerOf (client : List ℕ) (peer : SocketAddr) : Type 0 where
  pub address : Ipv4Addr
  pub octets : ipv4_octets address ≡ client
  pub ip : socket_ip peer ≡ V4 address
  pub port : socket_port peer ≡ 0

-- requests, as the datagrams of a peer
abbrev pub datagrams_of : SocketAddr → (requests : List (List ℕ)) → List PeerDatagram
datagrams_of peer requests = map (λ (request : List ℕ). datagram_of peer request) requests
