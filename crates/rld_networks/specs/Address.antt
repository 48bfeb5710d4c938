-- Addresses, IPv4 and IPv6: their texts (RFC 4291 section 2.2), and their bits as numbers.
use Rattle.std.specs.Prelude.{ℕ, ◌-◌, ◌/◌, ◌%◌, ◌^◌, ◌==◌, Bool, true, false, not, ◌&&◌, ◌||◌, nat_le, List, [], ◌∷◌, take, if◌then◌else◌, bytes_eq, Option, Some, None, option_map, is_some}
use Rattle.std.specs.Option.{option_or}
use Rattle.std.specs.Net.Addr.{ipv4_bits, ipv6_bits, ipv6_segments, is_ipv6, low_octets}
use Rattle.std.specs.Net.Reader.{read_ipv4, read_ipv6, whole_value}
use Rattle.std.specs.declared.net.ipv4_addr.Ipv4Addr.{Ipv4Addr}
use Rattle.std.specs.declared.net.ipv6_addr.Ipv6Addr.{Ipv6Addr}
use Rattle.std.specs.declared.net.ip_addr.IpAddr.{IpAddr}
use Rattle.std.specs.declared.net.ip_addr.IpAddr.TheVariants.{V4, V6}

-- the IPv4 address of four octets, and the IPv6 address of eight segments
abbrev pub ipv4 : (octets : List ℕ) → IpAddr
ipv4 octets = V4 (record { octets = octets })

abbrev pub ipv6 : (segments : List ℕ) → IpAddr
ipv6 segments = V6 (record { segments = segments })

-- the address of a text, with nothing after it
unfoldable pub ip_address_of : (text : List ℕ) → Option IpAddr
ip_address_of text =
    option_or (option_map ipv4 (whole_value (read_ipv4 text)))
    (option_map ipv6 (whole_value (read_ipv6 text)))

-- whether the address is ::ffff:a.b.c.d (RFC 4291 section 2.5.5.2)
abbrev pub is_mapped : Ipv6Addr → Bool
is_mapped address = bytes_eq (take 6 (ipv6_segments address)) (0 ∷ 0 ∷ 0 ∷ 0 ∷ 0 ∷ 0xffff ∷ [])

-- the IPv4 address of such an address
unfoldable pub mapped : IpAddr → Option Ipv4Addr
mapped (V4 address) = None
mapped (V6 address) =
    if is_mapped address then Some (record { octets = low_octets address }) else None

-- that address, and any other as it is
abbrev pub canonical_by : Option Ipv4Addr → IpAddr → IpAddr
canonical_by (Some found) address = V4 found
canonical_by None address = address

abbrev pub canonical : IpAddr → IpAddr
canonical address = canonical_by (mapped address) address

abbrev pub same_family : IpAddr → IpAddr → Bool
same_family (V4 one) (V4 other) = true
same_family (V6 one) (V6 other) = true
same_family one other = false

-- the number of bits of the address, and their number
abbrev pub width : IpAddr → ℕ
width (V4 address) = 32
width (V6 address) = 128

abbrev pub bits : IpAddr → ℕ
bits (V4 address) = ipv4_bits address
bits (V6 address) = ipv6_bits address

-- the first `len` bits of the address as a number
abbrev pub front : IpAddr → (len : ℕ) → ℕ
front address len = bits address / 2 ^ (width address - len)

-- whether two addresses are equal
abbrev pub same_address : IpAddr → IpAddr → Bool
same_address one other = same_family one other && bits one == bits other

-- whether a socket bound to one address receives what comes to the other: they are equal, or the
-- one is the wildcard address of its family, 0.0.0.0 or ::
abbrev pub covers : IpAddr → IpAddr → Bool
covers one other =
    same_address one other || bits one == 0 && (is_ipv6 one || same_family one other)

-- the first `len` bits of the address are a prefix: it is canonical and long enough, and all bits
-- after them are 0
abbrev pub is_prefix : IpAddr → (len : ℕ) → Bool
is_prefix address len =
    not (is_some (mapped address)) && nat_le len (width address)
    && bits address % 2 ^ (width address - len) == 0
