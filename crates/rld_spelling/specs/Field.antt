-- A field of a format: how a value is spelled in octets, how it is read, and which values have a
-- spelling.
--
-- Reading goes from left to right. It gives the value and the octets after it, or the first fault:
-- its cause, and how many octets are left at it. Fields are put together here, and in the same way
-- the lemmas of this crate that they are read as they are spelled.
use Rattle.std.specs.Prelude.{◌≡◌, ℕ, ◌<◌, ◌≤◌, List, [], ◌∷◌, ◌++◌, length, take, drop, slice_index, Bool, true, false, Option, Some, None, Result, Ok, Err, IfSome, nat_lt, nat_eq, if◌then◌else◌}
use Rattle.rld_spelling.specs.declared.fault.Cause.{Cause}
use Rattle.rld_spelling.specs.declared.fault.Cause.TheVariants.{CutShort, TooLong, UnknownTag}
use Rattle.rld_spelling.specs.declared.fault.Fault.{Fault}

-- the result of reading
abbrev pub Reading : Type 0 → Type 0
Reading A = Result (A × List ℕ) Fault

pub record Field (A : Type 0) : Type 1 where
  pub spell : A → List ℕ
  pub read : List ℕ → Reading A
  pub Fits : A → Type 0

-- numbers that are octets
abbrev pub AreOctets : List ℕ → Type 0
AreOctets octets = (i : ℕ) → slice_index octets i < 256

-- A field is read as it is spelled.
pub record IsRead {A : Type 0} (field : Field A) : Type 0 where
  -- what is read of octets is spelled so in them, and has a spelling
  pub spelled : (octets : List ℕ) (x : A) (rest : List ℕ) → AreOctets octets
      → field.read octets ≡ Ok (x, rest) → (octets ≡ field.spell x ++ rest) × field.Fits x
  -- what has a spelling is read from it, whatever follows
  pub again : (x : A) (rest : List ℕ) → field.Fits x → field.read (field.spell x ++ rest) ≡ Ok (x, rest)

-- a fault with these octets left
abbrev pub fault_at : {A : Type 0} → Cause → List ℕ → Result A Fault
fault_at cause octets = Err (record { cause = cause; left = length octets })

-- what is read after another value
abbrev pub then_read : {A B : Type 0} → Reading A → (A → List ℕ → Reading B) → Reading B
then_read (Ok x) next = next x.0 x.1
then_read (Err fault) next = Err fault

-- a value made of another one that was read
abbrev pub made_of : {A B : Type 0} → (A → B) → Reading A → Reading B
made_of make (Ok x) = Ok (make x.0, x.1)
made_of make (Err fault) = Err fault

-- ---- the smallest fields

-- nothing, which takes no octet
abbrev pub nothing : Field (Unit {0})
nothing = record { spell = λ x. []; read = λ octets. Ok (tt, octets); Fits = λ x. Unit {0} }

-- one octet
abbrev pub octet_at : List ℕ → Reading ℕ
octet_at [] = fault_at CutShort []
octet_at (first ∷ rest) = Ok (first, rest)

abbrev pub octet : Field ℕ
octet = record { spell = λ n. n ∷ []; read = octet_at; Fits = λ n. n < 256 }

-- this number of octets
unfoldable pub fixed_at : ℕ → List ℕ → Reading (List ℕ)
fixed_at count octets =
    if nat_lt (length octets) count then fault_at CutShort octets
    else Ok (take count octets, drop count octets)

abbrev pub fixed : ℕ → Field (List ℕ)
fixed count = record {
  spell = λ octets. octets;
  read = fixed_at count;
  Fits = λ octets. length octets ≡ count;
}

-- at most 253 octets, after an octet with their number
unfoldable pub short_at : List ℕ → Reading (List ℕ)
short_at [] = fault_at CutShort []
short_at (count ∷ rest) =
    if nat_lt 253 count then fault_at TooLong (count ∷ rest) else fixed_at count rest

abbrev pub short : Field (List ℕ)
short = record {
  spell = λ octets. length octets ∷ octets;
  read = short_at;
  Fits = λ octets. length octets ≤ 253;
}

-- a 0 for no, a 1 for yes
abbrev pub flag_spelled : Bool → List ℕ
flag_spelled false = 0 ∷ []
flag_spelled true = 1 ∷ []

abbrev pub flag_behind : ℕ → List ℕ → Reading Bool
flag_behind tag rest =
    if nat_eq tag 0 then Ok (false, rest)
    else (if nat_eq tag 1 then Ok (true, rest) else fault_at UnknownTag (tag ∷ rest))

unfoldable pub flag_at : List ℕ → Reading Bool
flag_at [] = fault_at CutShort []
flag_at (tag ∷ rest) = flag_behind tag rest

abbrev pub flag : Field Bool
flag = record { spell = flag_spelled; read = flag_at; Fits = λ x. Unit {0} }

-- ---- fields that are made of others

-- a value that passes a check; any other is refused for this cause, where it begins
abbrev pub passing : {A : Type 0} → Cause → (check : A → Bool) → (place : List ℕ) → A → List ℕ → Reading A
passing cause check place x rest = if check x then Ok (x, rest) else fault_at cause place

abbrev pub checked : {A : Type 0} → Cause → (check : A → Bool) → Field A → Field A
checked cause check field = record {
  spell = field.spell;
  read = λ octets. then_read (field.read octets) (passing cause check octets);
  Fits = λ x. field.Fits x × (check x ≡ true);
}

-- one field after the other
abbrev pub both : {A B : Type 0} → Field A → Field B → Field (A × B)
both a b = record {
  spell = λ x. a.spell x.0 ++ b.spell x.1;
  read = λ octets. then_read (a.read octets) (λ x rest. made_of (λ y. (x, y)) (b.read rest));
  Fits = λ x. a.Fits x.0 × b.Fits x.1;
}

-- a value seen as another: made of it, with these parts
abbrev pub seen_as : {A B : Type 0} → (make : A → B) → (parts : B → A) → Field A → Field B
seen_as make parts field = record {
  spell = λ x. field.spell (parts x);
  read = λ octets. made_of make (field.read octets);
  Fits = λ x. field.Fits (parts x);
}

-- a 0 for none, or a 1 and the value
abbrev pub option_spelled : {A : Type 0} → Field A → Option A → List ℕ
option_spelled field None = 0 ∷ []
option_spelled field (Some x) = 1 ∷ field.spell x

abbrev pub option_behind : {A : Type 0} → Field A → (there : Bool) → List ℕ → Reading (Option A)
option_behind field false rest = Ok (None, rest)
option_behind field true rest = made_of (λ x. Some x) (field.read rest)

abbrev pub optional : {A : Type 0} → Field A → Field (Option A)
optional field = record {
  spell = option_spelled field;
  read = λ octets. then_read (flag_at octets) (option_behind field);
  Fits = λ x. IfSome x field.Fits;
}
