-- What is written is read as it was.
use Rattle.std.proofs.Common.{◌≡◌, ℕ, suc, ◌+◌, ◌*◌, ◌/◌, ◌%◌, ◌<◌, ◌==◌, List, [], ◌∷◌, ◌++◌, length, Bool, true, false, ◌&&◌, not, Option, Some, None, if◌then◌else◌, refl, sym, ap, ◌∙◌, arith, append_assoc}
use Rattle.std.proofs.lemmas.Bool.{agree_below_at, and_parts, false≢true, not-true}
use Rattle.std.proofs.lemmas.Bool.Decides.{nat_tests}
use Rattle.std.specs.Prelude.{bytes_eq}
use Rattle.rld_values.specs.Read.{before, digit_of, octet_of, octets_of_hex, octets_of_word, own_octet, unescaped}
use Rattle.rld_values.specs.Values.{escaped, escaped_octet, hex, hex_digit, hex_octet, is_plain, word}
use Rattle.rld_values.specs.Laws.{AreOctets, ReadsBack, ReadsBackBehindKeys, ReadsHexBack}
use Rattle.rld_values.proofs.Fronts.{hex_none, hex_step, marked_step, own_step, read_none}

-- ---- each octet, by looking at all of them

abbrev is_found : Option ℕ → ℕ → Bool
is_found None octet = false
is_found (Some found) octet = found == octet

found_is : (found : Option ℕ) (octet : ℕ) → is_found found octet ≡ true → found ≡ Some octet
found_is None octet is = absurd (false≢true is)
found_is (Some found) octet is = let same : found ≡ octet = grind (arith, nat_tests) in ap Some same

-- its two digits are read as it was
abbrev digits_back : ℕ → Bool
digits_back octet = is_found (octet_of (digit_of (hex_digit (octet / 16))) (digit_of (hex_digit (octet % 16)))) octet

-- and so is what is written of it
abbrev is_back : (plain : Bool) → ℕ → Bool
is_back true octet = is_found (own_octet octet) octet && not (octet == 92)
is_back false octet = digits_back octet

digits_read : (octet : ℕ) → octet < 256 → digits_back octet ≡ true
digits_read octet below = agree_below_at digits_back (λ _. true) 256 octet refl below

octet_read : (octet : ℕ) → octet < 256 → is_back (is_plain octet) octet ≡ true
octet_read octet below = agree_below_at (λ octet. is_back (is_plain octet) octet) (λ _. true) 256 octet refl below

-- ---- octets, one after the other

one_read : (plain : Bool) (octet : ℕ) (rest : List ℕ) → is_back plain octet ≡ true
    → unescaped ((if plain then octet ∷ [] else 92 ∷ 120 ∷ hex_octet octet) ++ rest) ≡ before (Some octet) (unescaped rest)
one_read true octet rest back =
    let both = and_parts (is_found (own_octet octet) octet) (not (octet == 92)) back in
    own_step octet rest (not-true (octet == 92) both.1)
    ∙ ap (λ (first : Option ℕ). before first (unescaped rest)) (found_is (own_octet octet) octet both.0)
one_read false octet rest back =
    marked_step (hex_digit (octet / 16)) (hex_digit (octet % 16)) rest
    ∙ ap (λ (first : Option ℕ). before first (unescaped rest)) (found_is _ octet back)

first_octet : (octet : ℕ) (octets : List ℕ) → AreOctets (octet ∷ octets) → octet < 256
first_octet octet octets are = are 0 octet (omega arith)

other_octets : (octet : ℕ) (octets : List ℕ) → AreOctets (octet ∷ octets) → AreOctets octets
other_octets octet octets are = λ k d within. are (suc k) d (omega (arith, within))

pub value_read : (octets : List ℕ) → AreOctets octets → unescaped (escaped octets) ≡ Some octets
value_read [] are = read_none
value_read (octet ∷ octets) are =
    one_read (is_plain octet) octet (escaped octets) (octet_read octet (first_octet octet octets are))
    ∙ ap (before (Some octet)) (value_read octets (other_octets octet octets are))

pub hex_read : (octets : List ℕ) → AreOctets octets → octets_of_hex (hex octets) ≡ Some octets
hex_read [] are = hex_none
hex_read (octet ∷ octets) are =
    hex_step (hex_digit (octet / 16)) (hex_digit (octet % 16)) (hex octets)
    ∙ (ap (λ (first : Option ℕ). before first (octets_of_hex (hex octets))) (found_is _ octet (digits_read octet (first_octet octet octets are)))
    ∙ ap (before (Some octet)) (hex_read octets (other_octets octet octets are)))

-- ---- a word

-- what is written of octets is not `\e`, and not nothing
word_by : (plain : Bool) (octet : ℕ) (rest : List ℕ) → is_back plain octet ≡ true
    → octets_of_word ((if plain then octet ∷ [] else 92 ∷ 120 ∷ hex_octet octet) ++ rest)
    ≡ unescaped ((if plain then octet ∷ [] else 92 ∷ 120 ∷ hex_octet octet) ++ rest)
word_by true octet rest back =
    let both = and_parts (is_found (own_octet octet) octet) (not (octet == 92)) back in
    rw (not-true (octet == 92) both.1) refl
word_by false octet rest back = refl

pub word_read : (octets : List ℕ) → AreOctets octets → octets_of_word (word octets) ≡ Some octets
word_read [] are = refl
word_read (octet ∷ octets) are =
    word_by (is_plain octet) octet (escaped octets) (octet_read octet (first_octet octet octets are))
    ∙ value_read (octet ∷ octets) are
