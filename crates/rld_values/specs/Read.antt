-- Reading octets from a line. More is read than is written: each visible character except the
-- backslash may stand for itself, and each octet may be escaped.
use Rattle.std.specs.Prelude.{◌≡◌, ◌<◌, length, ℕ, ◌+◌, ◌-◌, ◌*◌, ◌==◌, List, [], ◌∷◌, ◌&&◌, not, bytes_eq, if◌then◌else◌, Option, Some, None}
use Rattle.rld_values.specs.Values.{is_between}

-- the value of a hexadecimal digit, whose letters are in lower case
abbrev pub digit_of : ℕ → Option ℕ
digit_of octet =
    if is_between 48 57 octet then Some (octet - 48)
    else if is_between 97 102 octet then Some (octet - 87)
    else None

-- the octet of two digits
abbrev pub octet_of : (high low : Option ℕ) → Option ℕ
octet_of (Some high) (Some low) = Some (16 * high + low)
octet_of (Some high) None = None
octet_of None low = None

-- an octet before others
abbrev pub before : Option ℕ → Option (List ℕ) → Option (List ℕ)
before (Some octet) (Some octets) = Some (octet ∷ octets)
before (Some octet) None = None
before None octets = None

-- the octet of a character that stands for itself
abbrev pub own_octet : ℕ → Option ℕ
own_octet octet = if is_between 33 126 octet && not (octet == 92) then Some octet else None

-- the octets after a key and `=`
unfoldable pub unescaped : List ℕ → Option (List ℕ)
unescaped [] = Some []
unescaped (octet ∷ mark ∷ high ∷ low ∷ rest) =
    if octet == 92 && mark == 120
    then before (octet_of (digit_of high) (digit_of low)) (unescaped rest)
    else before (own_octet octet) (unescaped (mark ∷ high ∷ low ∷ rest))
unescaped (octet ∷ rest) = before (own_octet octet) (unescaped rest)

-- the octets of hexadecimal digits
unfoldable pub octets_of_hex : List ℕ → Option (List ℕ)
octets_of_hex [] = Some []
octets_of_hex (high ∷ []) = None
octets_of_hex (high ∷ low ∷ rest) = before (octet_of (digit_of high) (digit_of low)) (octets_of_hex rest)

-- the octets of a word, which is never empty
abbrev pub if_some : List ℕ → Option (List ℕ)
if_some [] = None
if_some (octet ∷ rest) = unescaped (octet ∷ rest)

abbrev pub octets_of_word : List ℕ → Option (List ℕ)
octets_of_word word = if bytes_eq word (92 ∷ 101 ∷ []) then Some [] else if_some word

-- an octet is read at the front of a text, followed by these
pub record HasFront (read : List ℕ → Option (List ℕ)) (text : List ℕ) (octet : ℕ) (behind : List ℕ)
    : Type 0 where
  pub reads : read text ≡ before (Some octet) (read behind)
  pub shorter : length behind < length text
