-- What is read at the front of a text, and what is left.
use Rattle.std.proofs.Common.{◌≡◌, ◌≢◌, ℕ, ◌+◌, ◌-◌, ◌<◌, ◌≤◌, ◌==◌, List, [], ◌∷◌, ◌++◌, length, take, drop, get_or, Bool, true, false, Option, Some, None, refl, sym, ap, ◌∙◌, arith, length-drop}
use Rattle.std.specs.Option.{option_map}
use Rattle.std.proofs.lemmas.Bool.Decides.{nat_tests}
use Rattle.std.proofs.lemmas.List.{append-nil, length-take, take_all}
use Rattle.rld_values.specs.Read.{HasFront, before, digit_of, octet_of, octets_of_hex, own_octet, unescaped}
use Rattle.rld_values.specs.Values.{is_between}

-- ---- a value, octet by octet

-- an octet that is no backslash stands for itself or for nothing
pub own_step : (octet : ℕ) (rest : List ℕ) → (octet == 92) ≡ false
    → unescaped (octet ∷ rest) ≡ before (own_octet octet) (unescaped rest)
unfolding unescaped
own_step octet [] other = refl
own_step octet (one ∷ []) other = refl
own_step octet (one ∷ two ∷ []) other = refl
own_step octet (one ∷ two ∷ three ∷ rest) other = rw other refl

-- an `x` and two digits stand for an octet behind a backslash
pub marked_step : (high low : ℕ) (rest : List ℕ)
    → unescaped (92 ∷ 120 ∷ high ∷ low ∷ rest) ≡ before (octet_of (digit_of high) (digit_of low)) (unescaped rest)
unfolding unescaped
marked_step high low rest = refl

pub hex_step : (high low : ℕ) (rest : List ℕ)
    → octets_of_hex (high ∷ low ∷ rest) ≡ before (octet_of (digit_of high) (digit_of low)) (octets_of_hex rest)
unfolding octets_of_hex
hex_step high low rest = refl

-- ---- the front of what stands behind a backslash

-- too little is left
pub cut_off : (behind : List ℕ) → length behind < 3 → unescaped (92 ∷ behind) ≡ None
unfolding unescaped
cut_off [] few = refl
cut_off (one ∷ []) few = refl
cut_off (one ∷ two ∷ []) few = refl
cut_off (one ∷ two ∷ three ∷ rest) few = absurd (omega (arith, few))

-- no `x` stands there
pub unmarked : (behind : List ℕ) → 3 ≤ length behind → get_or behind 0 0 ≢ 120 → unescaped (92 ∷ behind) ≡ None
unfolding unescaped
unmarked [] some other = absurd (omega (arith, some))
unmarked (one ∷ []) some other = absurd (omega (arith, some))
unmarked (one ∷ two ∷ []) some other = absurd (omega (arith, some))
unmarked (one ∷ two ∷ three ∷ rest) some other =
    let no : (one == 120) ≡ false = grind (arith, nat_tests) in rw no refl

marked_at : (behind : List ℕ) → 3 ≤ length behind → get_or behind 0 0 ≡ 120
    → unescaped (92 ∷ behind)
    ≡ before (octet_of (digit_of (get_or behind 1 0)) (digit_of (get_or behind 2 0))) (unescaped (take (length behind - 3) (drop 3 behind)))
unfolding unescaped
marked_at [] some mark = absurd (omega (arith, some))
marked_at (one ∷ []) some mark = absurd (omega (arith, some))
marked_at (one ∷ two ∷ []) some mark = absurd (omega (arith, some))
marked_at (one ∷ two ∷ three ∷ rest) some mark =
    let yes : (one == 120) ≡ true = grind (arith, nat_tests) in
    let all : take (length (one ∷ two ∷ three ∷ rest) - 3) rest ≡ rest = take_all _ rest (omega arith) in
    rw (yes, all) refl

-- a part is no longer than the whole
shorter_part : (n k : ℕ) (octets : List ℕ) → length (take n (drop k octets)) ≤ length octets
shorter_part n k octets = omega (arith, length-take n (drop k octets), length-drop k octets)

-- an octet is escaped there
pub marked : (behind : List ℕ) (octet : ℕ) → 3 ≤ length behind → get_or behind 0 0 ≡ 120
    → Some octet ≡ octet_of (digit_of (get_or behind 1 0)) (digit_of (get_or behind 2 0))
    → HasFront unescaped (92 ∷ behind) octet (take (length behind - 3) (drop 3 behind))
marked behind octet some mark is = record {
  reads =
      marked_at behind some mark
      ∙ ap (λ (first : Option ℕ). before first (unescaped (take (length behind - 3) (drop 3 behind)))) (sym is);
  shorter = grind (arith, shorter_part (length behind - 3) 3 behind);
}

-- or not, since these are no digits
pub undigited : (behind : List ℕ) → 3 ≤ length behind → get_or behind 0 0 ≡ 120
    → None ≡ octet_of (digit_of (get_or behind 1 0)) (digit_of (get_or behind 2 0)) → unescaped (92 ∷ behind) ≡ None
undigited behind some mark is =
    marked_at behind some mark
    ∙ ap (λ (first : Option ℕ). before first (unescaped (take (length behind - 3) (drop 3 behind)))) (sym is)

-- ---- the front of a value that begins with another octet

own_at : (value : List ℕ) → 1 ≤ length value → (get_or value 0 0 == 92) ≡ false
    → unescaped value ≡ before (own_octet (get_or value 0 0)) (unescaped (take (length value - 1) (drop 1 value)))
own_at [] some other = absurd (omega (arith, some))
own_at (octet ∷ rest) some other =
    let all : take (length (octet ∷ rest) - 1) rest ≡ rest = take_all _ rest (omega arith) in
    rw all (own_step octet rest other)

no_backslash : (octet : ℕ) → octet ≢ 92 → (octet == 92) ≡ false
no_backslash octet other = grind (arith, nat_tests)

seen : (octet : ℕ) → octet ≢ 92 → is_between 33 126 octet ≡ true → own_octet octet ≡ Some octet
seen octet other is = let no : (octet == 92) ≡ false = no_backslash octet other in rw (is, no) refl

unseen : (octet : ℕ) → is_between 33 126 octet ≡ false → own_octet octet ≡ None
unseen octet is = rw is refl

-- it stands for itself
pub own : (value : List ℕ) → 1 ≤ length value → get_or value 0 0 ≢ 92 → is_between 33 126 (get_or value 0 0) ≡ true
    → HasFront unescaped value (get_or value 0 0) (take (length value - 1) (drop 1 value))
own value some other is = record {
  reads =
      own_at value some (no_backslash (get_or value 0 0) other)
      ∙ ap (λ (first : Option ℕ). before first (unescaped (take (length value - 1) (drop 1 value)))) (seen (get_or value 0 0) other is);
  shorter =
      omega (arith, some, length-take (length value - 1) (drop 1 value), length-drop 1 value);
}

-- or for nothing
pub not_own : (value : List ℕ) → 1 ≤ length value → get_or value 0 0 ≢ 92 → is_between 33 126 (get_or value 0 0) ≡ false
    → unescaped value ≡ None
not_own value some other is =
    own_at value some (no_backslash (get_or value 0 0) other)
    ∙ ap (λ (first : Option ℕ). before first (unescaped (take (length value - 1) (drop 1 value)))) (unseen (get_or value 0 0) is)

-- ---- the front of hexadecimal digits

pub one_digit : (digits : List ℕ) → 0 < length digits → length digits < 2 → octets_of_hex digits ≡ None
unfolding octets_of_hex
one_digit [] some few = absurd (omega (arith, some))
one_digit (high ∷ []) some few = refl
one_digit (high ∷ low ∷ rest) some few = absurd (omega (arith, few))

hex_at : (digits : List ℕ) → 2 ≤ length digits
    → octets_of_hex digits
    ≡ before (octet_of (digit_of (get_or digits 0 0)) (digit_of (get_or digits 1 0))) (octets_of_hex (take (length digits - 2) (drop 2 digits)))
hex_at [] some = absurd (omega (arith, some))
hex_at (high ∷ []) some = absurd (omega (arith, some))
hex_at (high ∷ low ∷ rest) some =
    let all : take (length (high ∷ low ∷ rest) - 2) rest ≡ rest = take_all _ rest (omega arith) in
    rw all (hex_step high low rest)

-- two digits are an octet
pub two_digits : (digits : List ℕ) (octet : ℕ) → 2 ≤ length digits
    → Some octet ≡ octet_of (digit_of (get_or digits 0 0)) (digit_of (get_or digits 1 0))
    → HasFront octets_of_hex digits octet (take (length digits - 2) (drop 2 digits))
two_digits digits octet some is = record {
  reads =
      hex_at digits some
      ∙ ap (λ (first : Option ℕ). before first (octets_of_hex (take (length digits - 2) (drop 2 digits)))) (sym is);
  shorter = omega (arith, some, length-take (length digits - 2) (drop 2 digits), length-drop 2 digits);
}

-- or are none
pub no_digits : (digits : List ℕ) → 2 ≤ length digits
    → None ≡ octet_of (digit_of (get_or digits 0 0)) (digit_of (get_or digits 1 0)) → octets_of_hex digits ≡ None
no_digits digits some is =
    hex_at digits some
    ∙ ap (λ (first : Option ℕ). before first (octets_of_hex (take (length digits - 2) (drop 2 digits)))) (sym is)

-- ---- one octet after the other

-- octets before those that are read of the rest, if it can be read
abbrev pub onto : List ℕ → Option (List ℕ) → Option (List ℕ)
onto octets found = option_map (λ more. octets ++ more) found

-- nothing is left
pub onto_all : (read : List ℕ → Option (List ℕ)) (octets text : List ℕ) (all : Option (List ℕ))
    → read [] ≡ Some [] → length text ≡ 0 → onto octets (read text) ≡ all → Some octets ≡ all
onto_all read octets [] all none empty so = ap Some (sym (append-nil octets)) ∙ (sym (ap (onto octets) none) ∙ so)
onto_all read octets (octet ∷ rest) all none empty so = absurd (omega (arith, empty))

pub read_none : unescaped [] ≡ Some []
unfolding unescaped
read_none = refl

pub hex_none : octets_of_hex [] ≡ Some []
unfolding octets_of_hex
hex_none = refl
