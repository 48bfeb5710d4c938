-- What is noted of a datagram that was refused.
use Rattle.std.specs.Prelude.{◌≡◌, ℕ}
use Rattle.std.specs.Net.Socket.{socket_ip}
use Rattle.rld_counts.specs.declared.fate.Fate.{Fate}
use Rattle.rld_look.specs.declared.refusal.Refused.{Refused}
use Rattle.rld_networks.specs.Address.{canonical}
use Rattle.rld_turn.specs.Told.{Told}

-- By what a watcher learns of it: the address of the very peer that it came from, also of one that stands for no client;
-- the source as which it was seen, and its client; its octets; its fate, and the second of that.
pub record IsNotedAs (moment : ℕ) (told : Told) (fate : Fate) (refused : Refused) : Type 0 where
  pub at : refused.moment ≡ moment
  pub source : refused.source ≡ told.origin.source
  pub peer : refused.peer ≡ canonical (socket_ip told.origin.peer)
  pub client : refused.client ≡ told.client
  pub octets : refused.octets.now ≡ told.octets
  pub fate_is : refused.fate ≡ fate
