-- The client of an address.
use Rattle.std.specs.Prelude.{ℕ, nat_lt, List, [], ◌∷◌, filter, if◌then◌else◌, Option, Some, None}
use Rattle.std.specs.Net.Addr.{ipv4_octets}
use Rattle.std.specs.declared.net.ip_addr.IpAddr.{IpAddr}
use Rattle.std.specs.declared.net.ip_addr.IpAddr.TheVariants.{V4, V6}
use Rattle.rld_networks.specs.Address.{canonical}
use Rattle.rld_networks.specs.Prefix.{holds}
use Rattle.rld_networks.specs.declared.network.Network.{Network}

-- the network of the two with the longer prefix, or the first if they are equal
abbrev pub first_longest : Option Network → Option Network → Option Network
first_longest None other = other
first_longest (Some network) None = Some network
first_longest (Some network) (Some other) =
    if nat_lt network.prefix.len other.prefix.len then Some other else Some network

-- the network with the longest prefix, and of several the first
abbrev pub longest : List Network → Option Network
longest [] = None
longest (network ∷ networks) = first_longest (Some network) (longest networks)

-- the network with the longest prefix among those that hold an address
abbrev pub network_of : List Network → IpAddr → Option Network
network_of networks address = longest (filter (λ network. holds network.prefix address) networks)

-- the client of a network, or else an IPv4 address itself; an IPv6 address that no network holds is
-- no client's
abbrev pub client_by : Option Network → IpAddr → Option (List ℕ)
client_by (Some network) address = Some network.client
client_by None (V4 address) = Some (ipv4_octets address)
client_by None (V6 address) = None

-- the IPv4 address of the client of an address
unfoldable pub client_of : List Network → IpAddr → Option (List ℕ)
client_of networks address =
    client_by (network_of networks (canonical address)) (canonical address)
