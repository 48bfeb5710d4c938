-- The text of an IPv4 address.
use Rattle.std.specs.Prelude.{ℕ, List, Option}
use Rattle.std.specs.Net.Reader.{read_ipv4, whole_value}

-- the octets of an address from its text: four decimal numbers 0 to 255 without leading zeros,
-- joined by dots
unfoldable pub address_of : List ℕ → Option (List ℕ)
address_of text = whole_value (read_ipv4 text)
