-- Numbers, each in its shortest form: below 253 an octet with the number, else an octet 253, 254 or
-- 255 and the number in 2, 4 or 8 octets, high octet first. A number in a longer form is refused.
use Rattle.std.specs.Prelude.{ℕ, ◌<◌, ◌≤◌, ◌^◌, Bool, ◌&&◌, List, [], ◌∷◌, length, take, drop, nat_lt, nat_le, nat_eq, Ok, Err, if◌then◌else◌}
use Rattle.std.specs.Int.{Width, w16, w32, w64, byte_len, from_be_bytes, to_be_bytes}
use Rattle.rld_spelling.specs.declared.fault.Cause.{Cause}
use Rattle.rld_spelling.specs.declared.fault.Cause.TheVariants.{CutShort, LongNumber}
use Rattle.rld_spelling.specs.Field.{Field, Reading, fault_at, then_read, passing}

-- a number in as many octets as its width has, high octet first
unfoldable pub wide_at : Width → List ℕ → Reading ℕ
wide_at w octets =
    if nat_lt (length octets) (byte_len w) then fault_at CutShort octets
    else Ok (from_be_bytes w (take (byte_len w) octets), drop (byte_len w) octets)

abbrev pub wide : Width → (limit : ℕ) → Field ℕ
wide w limit = record { spell = to_be_bytes w; read = wide_at w; Fits = λ n. n < limit }

-- a number in 2 octets
abbrev pub pair : Field ℕ
pair = wide w16 (2 ^ 16)

-- a number in its shortest form
unfoldable pub number_octets : ℕ → List ℕ
number_octets n =
    if nat_lt n 253 then n ∷ []
    else (if nat_lt n (2 ^ 16) then 253 ∷ to_be_bytes w16 n
    else (if nat_lt n (2 ^ 32) then 254 ∷ to_be_bytes w32 n
    else 255 ∷ to_be_bytes w64 n))

-- a number of at least `least`; any other is refused at its mark, which the octets `behind` follow
abbrev pub at_least : (least mark : ℕ) → List ℕ → Reading ℕ → Reading ℕ
at_least least mark behind (Ok x) = if nat_lt x.0 least then fault_at LongNumber (mark ∷ behind) else Ok x
at_least least mark behind (Err fault) = Err fault

unfoldable pub number_at : List ℕ → Reading ℕ
number_at [] = fault_at CutShort []
number_at (mark ∷ behind) =
    if nat_eq mark 253 then at_least 253 mark behind (wide_at w16 behind)
    else (if nat_eq mark 254 then at_least (2 ^ 16) mark behind (wide_at w32 behind)
    else (if nat_eq mark 255 then at_least (2 ^ 32) mark behind (wide_at w64 behind)
    else Ok (mark, behind)))

abbrev pub number : Field ℕ
number = record { spell = number_octets; read = number_at; Fits = λ n. n < 2 ^ 64 }

-- a number below a limit; any other is refused for this cause
abbrev pub within : Cause → (limit : ℕ) → (place : List ℕ) → ℕ → List ℕ → Reading ℕ
within cause limit place n rest =
    if nat_lt n limit then Ok (n, rest) else fault_at cause place

unfoldable pub below_at : Cause → (limit : ℕ) → List ℕ → Reading ℕ
below_at cause limit octets = then_read (number_at octets) (within cause limit octets)

abbrev pub below : Cause → (limit : ℕ) → Field ℕ
below cause limit =
    record { spell = number_octets; read = below_at cause limit; Fits = λ n. n < limit }

-- a number from `least` to `most`; any other is refused for this cause
abbrev pub is_between : (least most : ℕ) → ℕ → Bool
is_between least most n = nat_le least n && nat_le n most

unfoldable pub between_at : Cause → (least most : ℕ) → List ℕ → Reading ℕ
between_at cause least most octets =
    then_read (number_at octets) (passing cause (is_between least most) octets)

abbrev pub between : Cause → (least most : ℕ) → Field ℕ
between cause least most = record {
  spell = number_octets;
  read = between_at cause least most;
  Fits = λ n. (least ≤ n) × (n ≤ most);
}

-- a number that is always the same; any other is refused for this cause
abbrev pub exact : Cause → (value : ℕ) → (place : List ℕ) → ℕ → List ℕ → Reading (Unit {0})
exact cause value place n rest =
    if nat_eq n value then Ok (tt, rest) else fault_at cause place

unfoldable pub exactly_at : Cause → (value : ℕ) → List ℕ → Reading (Unit {0})
exactly_at cause value octets = then_read (number_at octets) (exact cause value octets)

abbrev pub exactly : Cause → (value : ℕ) → Field (Unit {0})
exactly cause value = record {
  spell = λ x. number_octets value;
  read = exactly_at cause value;
  Fits = λ x. Unit {0};
}
