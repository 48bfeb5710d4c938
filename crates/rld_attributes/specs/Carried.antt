-- What an attribute of Type 26 carries.
use Rattle.std.specs.Prelude.{ℕ, ◌+◌, ◌==◌, ◌&&◌, nat_lt, if◌then◌else◌, List, [], ◌∷◌, length, Option, None, Some}
use Rattle.std.specs.Int.{w32, from_be_bytes}

-- a vendor's number, 0 for none, a Type and a value
abbrev pub Carried : Type 0
Carried = ℕ × ℕ × List ℕ

-- one attribute of a vendor, both of which have a number, with a value (RFC 2865 section 5.26)
abbrev pub of_vendor : (value : List ℕ) → Option Carried
of_vendor (high ∷ a ∷ b ∷ c ∷ number ∷ len ∷ value) =
    if high == 0 && nat_lt 0 (from_be_bytes w32 (high ∷ a ∷ b ∷ c ∷ [])) && nat_lt 0 number
    && nat_lt 0 (length value) && len == 2 + length value
    then Some (from_be_bytes w32 (high ∷ a ∷ b ∷ c ∷ []), number, value)
    else None
of_vendor _ = None

abbrev pub carried_by : Option Carried → (kind : ℕ) → (value : List ℕ) → Carried
carried_by None kind value = (0, kind, value)
carried_by (Some carried) kind value = carried

-- that of a vendor which the attribute carries, or the attribute itself
abbrev pub carried : (kind : ℕ) → (value : List ℕ) → Carried
carried kind value = carried_by (if kind == 26 then of_vendor value else None) kind value
