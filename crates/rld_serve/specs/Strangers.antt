-- What is noted of a request over HTTP that did not show the token.
use Rattle.std.specs.Prelude.{◌≡◌, ℕ, [], None}
use Rattle.std.specs.Net.Socket.{socket_ip, socket_port}
use Rattle.std.specs.declared.net.socket_addr.SocketAddr.{SocketAddr}
use Rattle.rld_counts.specs.declared.cause.Cause.TheVariants.{Unauthorized}
use Rattle.rld_counts.specs.declared.gate.Gate.TheVariants.{Ask}
use Rattle.rld_look.specs.declared.refusal.Refused.{Refused}

-- the peer itself, as no client, with nothing that it has sent
pub record IsUnauthorized (peer : SocketAddr) (moment : ℕ) (refused : Refused) : Type 0 where
  pub at : refused.moment ≡ moment
  pub address : refused.peer ≡ socket_ip peer
  pub port : refused.source.port ≡ socket_port peer
  pub client : refused.client ≡ None
  pub octets : refused.octets.now ≡ []
  pub fate_is : refused.fate ≡ record { gate = Ask; cause = Unauthorized }
