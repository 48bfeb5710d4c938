-- The values of words. (`address_of`, the octets of an IPv4 address, is a definition of
-- `rsl_accounts`.)
use Rattle.std.specs.Prelude.{ℕ, ◌≤◌, ◌^◌, ◌&&◌, nat_lt, nat_le, Bool, true, false, if◌then◌else◌, List, [], ◌∷◌, length, take, drop, codes, bytes_eq, Option, None, Some, option_map, option_and_then}
use Rattle.std.specs.Result.{result_ok}
use Rattle.std.specs.Str.{all_ascii_digits}
use Rattle.std.specs.Str.Parse.{digits_value}
use Rattle.hex.specs.Hex.{decode_of}

-- one or more decimal digits
abbrev pub is_numeral : List ℕ → Bool
is_numeral word = nat_lt 0 (length word) && all_ascii_digits word

-- a number under 2^64 in decimal digits, leading zeros allowed
unfoldable pub read_number : List ℕ → Option ℕ
read_number word =
    if is_numeral word && nat_lt (digits_value 10 word) (2 ^ 64)
    then Some (digits_value 10 word)
    else None

abbrev pub octet_of : ℕ → Option ℕ
octet_of number = if nat_lt number 256 then Some number else None

-- an Identifier: a number 0 to 255
unfoldable pub read_id : List ℕ → Option ℕ
read_id word = option_and_then octet_of (read_number word)

-- a word has 1 to `most` octets
pub record IsUpTo (most : ℕ) (word : List ℕ) : Type 0 where
  pub some : 1 ≤ length word
  pub fits : length word ≤ most

-- the word, if it has 1 to `most` octets
unfoldable pub up_to : (most : ℕ) → List ℕ → Option (List ℕ)
up_to most word = if nat_le 1 (length word) && nat_le (length word) most then Some word else None

-- a text that fits an attribute
unfoldable pub read_name : List ℕ → Option (List ℕ)
read_name word = up_to 253 word

-- a password that fits a User-Password
unfoldable pub read_password : List ℕ → Option (List ℕ)
read_password word = up_to 128 word

-- a NAS-Identifier, or none for `-`
unfoldable pub read_nas : List ℕ → Option (Option (List ℕ))
read_nas word = if bytes_eq word (codes "-") then Some None else option_map Some (read_name word)

-- at least one pair of hexadecimal digits, of either case
unfoldable pub read_octets : List ℕ → Option (List ℕ)
read_octets [] = None
read_octets word = result_ok (decode_of word)

-- the rest of a word after this beginning
unfoldable pub rest_after : (beginning : List ℕ) → List ℕ → Option (List ℕ)
rest_after beginning word =
    if bytes_eq (take (length beginning) word) beginning
    then Some (drop (length beginning) word)
    else None

-- the number in a word after this beginning
unfoldable pub number_after : (beginning : List ℕ) → List ℕ → Option ℕ
number_after beginning word = option_and_then read_number (rest_after beginning word)

-- what the first word has, if anything, and the words that are left
abbrev pub leading : {T : Type 0} → (words : List (List ℕ)) → (first : Option T)
    → Option T × List (List ℕ)
leading words None = (None, words)
leading [] (Some value) = (None, [])
leading (word ∷ rest) (Some value) = (Some value, rest)

-- the number in the first word after this beginning, if it has one, and the words that are left
unfoldable pub leading_number : (beginning : List ℕ) → (words : List (List ℕ))
    → Option ℕ × List (List ℕ)
leading_number beginning [] = (None, [])
leading_number beginning (word ∷ rest) = leading (word ∷ rest) (number_after beginning word)

-- the rest of the first word after this beginning, and the words that are left
unfoldable pub leading_text : (beginning : List ℕ) → (words : List (List ℕ))
    → Option (List ℕ) × List (List ℕ)
leading_text beginning [] = (None, [])
leading_text beginning (word ∷ rest) = leading (word ∷ rest) (rest_after beginning word)

-- a text that fits an attribute, or none
unfoldable pub read_optional : Option (List ℕ) → Option (Option (List ℕ))
read_optional None = Some None
read_optional (Some word) = option_map Some (read_name word)

-- the station of the words [station=S], S a text that fits an attribute
unfoldable pub read_station : (words : List (List ℕ)) → Option (Option (List ℕ))
read_station [] = Some None
read_station (word ∷ []) =
    option_map Some (option_and_then read_name (rest_after (codes "station=") word))
read_station _ = None

abbrev pub seconds_of : ℕ → Option ℕ
seconds_of number = if nat_lt number (2 ^ 32) then Some number else None

-- the delay of the words [delay=N], N a number under 2^32
unfoldable pub read_delay : (words : List (List ℕ)) → Option (Option ℕ)
read_delay [] = Some None
read_delay (word ∷ []) =
    option_map Some (option_and_then seconds_of (number_after (codes "delay=") word))
read_delay _ = None

-- whether the words are this word, or none
unfoldable pub read_flag : (name : List ℕ) → (words : List (List ℕ)) → Option Bool
read_flag name [] = Some false
read_flag name (word ∷ []) = if bytes_eq word name then Some true else None
read_flag name _ = None
