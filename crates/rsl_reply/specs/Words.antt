-- The parts of a text, and the numbers that words write.
use Rattle.std.specs.Prelude.{ℕ, ◌-◌, ◌^◌, ◌==◌, ◌&&◌, nat_lt, nat_le, Bool, if◌then◌else◌, List, length, take, drop, bytes_eq, Option, None, Some, option_and_then}
use Rattle.std.specs.Char.{is_ascii_whitespace}
use Rattle.std.specs.List.{prefix_len, suffix_len, position_or_len, before_first, after_first}
use Rattle.std.specs.Str.{all_ascii_digits}
use Rattle.std.specs.Str.Parse.{digits_value}

-- a part, and then what follows from it: nothing where either is nothing
infixl 10 ◌>>=◌
abbrev pub ◌>>=◌ : {A B : Type 0} → Option A → (A → Option B) → Option B
part >>= next = option_and_then next part

-- what stands before the first of these octets, and what stands after it
unfoldable pub split_at : (separator : ℕ) → List ℕ → Option (List ℕ × List ℕ)
split_at separator text =
    if nat_lt (position_or_len (λ octet. octet == separator) text) (length text)
    then Some (before_first (λ octet. octet == separator) text, after_first (λ octet. octet == separator) text)
    else None

-- without white space before it, and at its end
abbrev pub begun : List ℕ → List ℕ
begun text = drop (prefix_len is_ascii_whitespace text) text

abbrev pub ended : List ℕ → List ℕ
ended text = take (length text - suffix_len is_ascii_whitespace text) text

unfoldable pub trimmed : List ℕ → List ℕ
trimmed text = ended (begun text)

-- what stands after this beginning
unfoldable pub rest_after : (beginning : List ℕ) → List ℕ → Option (List ℕ)
rest_after beginning word =
    if bytes_eq (take (length beginning) word) beginning
    then Some (drop (length beginning) word)
    else None

-- one or more decimal digits
abbrev pub is_numeral : List ℕ → Bool
is_numeral word = nat_lt 0 (length word) && all_ascii_digits word

-- a number under 2^32 in decimal digits, leading zeros allowed
unfoldable pub read_number : List ℕ → Option ℕ
read_number word =
    if is_numeral word && nat_lt (digits_value 10 word) (2 ^ 32)
    then Some (digits_value 10 word)
    else None

-- such a number from 1 to `most`
unfoldable pub up_to : (most : ℕ) → List ℕ → Option ℕ
up_to most word = do
  number ← read_number word
  if nat_le 1 number && nat_le number most then Some number else None
