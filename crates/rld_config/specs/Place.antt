-- The position where a text stops being TOML.
use Rattle.std.specs.Prelude.{◌≡◌, ℕ, ◌+◌, ◌≤◌, Bool, ◌==◌, ◌&&◌, nat_le, if◌then◌else◌, List, length, take}
use Rattle.std.specs.List.{fold}
use Rattle.rld_config.specs.declared.place.Place.{Place}

-- the first position of a text
abbrev pub first_place : Place
first_place = record { line = 1; column = 1 }

-- whether an octet continues the character of the octet before it (RFC 3629 section 3)
abbrev pub goes_on : ℕ → Bool
goes_on octet = nat_le 128 octet && nat_le octet 191

-- the position after another octet: a line feed ends a line, and a column counts characters
abbrev pub place_past : Place → ℕ → Place
place_past place octet =
    if octet == 10 then record { line = place.line + 1; column = 1 }
    else if goes_on octet then place
    else record { line = place.line; column = place.column + 1 }

-- the position after these octets
abbrev pub place_after : List ℕ → Place
place_after octets = fold place_past first_place octets

-- the position is one of the text
abbrev pub IsPlaceIn : (text : List ℕ) → Place → Type 0
IsPlaceIn text place = (at : ℕ) × (at ≤ length text) × (place ≡ place_after (take at text))
