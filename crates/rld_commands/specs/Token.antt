-- The file of a token.
use Rattle.std.specs.Prelude.{◌≡◌, ℕ, Bool, true, ◌==◌, ◌&&◌, nat_le, bit_and, List, length}
use Rattle.std.specs.Char.{is_ascii_graphic}
use Rattle.std.specs.List.{list_all}
use Rattle.rld_ask.specs.Token.{credentials}
use Rattle.rld_ask.specs.declared.token.Token.{Token}

-- nobody but its owner can do something with a file of this mode
abbrev pub is_private : (mode : ℕ) → Bool
is_private mode = bit_and mode 63 == 0

-- 16 to 256 visible characters of ASCII
abbrev pub is_token : (octets : List ℕ) → Bool
is_token octets = nat_le 16 (length octets) && nat_le (length octets) 256 && list_all is_ascii_graphic octets

-- what has to be shown is that of such a token
pub record IsOfToken (token : Token) : Type 0 where
  pub octets : List ℕ
  pub is : is_token octets ≡ true
  pub shown : token.credentials.items ≡ credentials octets
