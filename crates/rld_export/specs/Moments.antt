-- Moments that somebody names.
use Rattle.std.specs.Prelude.{◌≡◌, ◌⊎◌, ℕ, ◌+◌, ◌-◌, ◌*◌, nat_le, ◌&&◌, Bool, IsTrue, List, ◌++◌, codes, fold}
use Rattle.std.specs.List.{list_all}
use Rattle.rld_values.specs.Dates.{date_or_number, http_date}

abbrev pub is_digit : (octet : ℕ) → Bool
is_digit octet = nat_le 48 octet && nat_le octet 57

-- the number that decimal digits say
abbrev pub with_digit : (number octet : ℕ) → ℕ
with_digit number octet = number * 10 + (octet - 48)

abbrev pub number_in : (digits : List ℕ) → ℕ
number_in digits = fold with_digit 0 digits

-- a second as it is printed
abbrev pub printed : (dates : ℕ → List ℕ) → (second : ℕ) → List ℕ
printed dates second = date_or_number (http_date dates second) second

-- a text names a second by its date and time, as the first second of a date, or by its number
abbrev pub IsNamed : (dates : ℕ → List ℕ) → (text : List ℕ) → (second : ℕ) → Type 0
IsNamed dates text second =
    (text ≡ printed dates second)
    ⊎ ((text ++ codes " 00:00:00" ≡ printed dates second)
    ⊎ (IsTrue (list_all is_digit text) × (second ≡ number_in text)))
