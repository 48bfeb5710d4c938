-- Values in a line: no value has a space, a line feed or a quotation mark in it, or anything else
-- that is special to a shell within single quotation marks.
use Rattle.std.specs.Prelude.{ℕ, ◌+◌, ◌/◌, ◌%◌, ◌==◌, List, [], ◌∷◌, ◌++◌, Bool, ◌&&◌, ◌||◌, nat_le, nat_lt, codes, if◌then◌else◌, slice_index_or}
use Rattle.std.specs.Fmt.{decimal}
use Rattle.std.specs.List.{flat_map}

-- the hexadecimal digit of a number below 16
abbrev pub hex_digit : ℕ → ℕ
hex_digit number = if nat_lt number 10 then 48 + number else 87 + number

-- the two digits of an octet
abbrev pub hex_octet : ℕ → List ℕ
hex_octet octet = hex_digit (octet / 16) ∷ hex_digit (octet % 16) ∷ []

-- octets as hexadecimal digits
abbrev pub hex : List ℕ → List ℕ
hex octets = flat_map hex_octet octets

abbrev pub is_between : (first last octet : ℕ) → Bool
is_between first last octet = nat_le first octet && nat_le octet last

-- a letter or a digit
abbrev pub is_letter_or_digit : ℕ → Bool
is_letter_or_digit octet = is_between 48 57 octet || is_between 65 90 octet || is_between 97 122 octet

-- one of %+,-./:=@_
abbrev pub is_mark : ℕ → Bool
is_mark octet =
    is_between 43 47 octet || octet == 37 || octet == 58 || octet == 61 || octet == 64 || octet == 95

-- an octet that stands for itself: a letter, a digit or one of those marks
abbrev pub is_plain : ℕ → Bool
is_plain octet = is_letter_or_digit octet || is_mark octet

-- an octet as it is, or as a backslash, an `x` and its two digits
abbrev pub escaped_octet : ℕ → List ℕ
escaped_octet octet = if is_plain octet then octet ∷ [] else 92 ∷ 120 ∷ hex_octet octet

-- octets after a key and `=`, which may be none
abbrev pub escaped : List ℕ → List ℕ
escaped octets = flat_map escaped_octet octets

-- octets as a word: none are `\e`, which no other octets are
abbrev pub word : List ℕ → List ℕ
word [] = 92 ∷ 101 ∷ []
word (octet ∷ octets) = escaped (octet ∷ octets)

-- two numbers with a dot between them
abbrev pub dotted_pair : (some other : ℕ) → List ℕ
dotted_pair some other = decimal some ++ (46 ∷ decimal other)

-- an IPv4 address: its four octets as decimals, with dots between them
unfoldable pub dotted : List ℕ → List ℕ
dotted address =
    dotted_pair (slice_index_or address 0 0) (slice_index_or address 1 0)
    ++ (46 ∷ dotted_pair (slice_index_or address 2 0) (slice_index_or address 3 0))
