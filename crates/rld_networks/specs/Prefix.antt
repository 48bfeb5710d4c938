-- Prefixes of addresses: their texts, and which addresses they hold.
use Rattle.std.specs.Prelude.{ℕ, ◌+◌, ◌-◌, ◌*◌, ◌==◌, Bool, ◌&&◌, nat_le, List, [], ◌∷◌, take, drop, if◌then◌else◌, position, Option, Some, None, option_and_then}
use Rattle.std.specs.declared.net.ip_addr.IpAddr.{IpAddr}
use Rattle.rld_networks.specs.Address.{canonical, front, ip_address_of, is_prefix, same_address, same_family}
use Rattle.rld_networks.specs.declared.prefix.Prefix.{Prefix}

-- the address has the family and the first bits of the prefix
abbrev pub holds : Prefix → IpAddr → Bool
holds prefix address =
    same_family prefix.address address
    && front prefix.address prefix.len == front address prefix.len

abbrev pub same_prefix : Prefix → Prefix → Bool
same_prefix one other = same_address one.address other.address && one.len == other.len

-- whether an octet is a decimal digit, and one that is not 0
abbrev pub is_digit : ℕ → Bool
is_digit octet = nat_le 48 octet && nat_le octet 57

abbrev pub is_first_digit : ℕ → Bool
is_first_digit octet = nat_le 49 octet && nat_le octet 57

-- the number of one to three decimal digits without a leading 0, up to 199
abbrev pub decimal_of : (text : List ℕ) → Option ℕ
decimal_of (a ∷ []) = if is_digit a then Some (a - 48) else None
decimal_of (a ∷ b ∷ []) =
    if is_first_digit a && is_digit b then Some (10 * (a - 48) + (b - 48)) else None
decimal_of (a ∷ b ∷ c ∷ []) =
    if a == 49 && is_digit b && is_digit c then Some (100 + 10 * (b - 48) + (c - 48)) else None
decimal_of _ = None

-- the prefix of an address and a number of bits, if it is one
abbrev pub prefix_in : Option IpAddr → Option ℕ → Option Prefix
prefix_in (Some address) (Some len) =
    if is_prefix address len then Some (record { address = address; len = len }) else None
prefix_in _ _ = None

-- the prefix of a text: an address, a slash and a decimal number
unfoldable pub prefix_of : (text : List ℕ) → Option Prefix
prefix_of text =
    option_and_then
    (λ slash. prefix_in (ip_address_of (take slash text)) (decimal_of (drop (slash + 1) text)))
    (position (λ octet. octet == 47) text)
