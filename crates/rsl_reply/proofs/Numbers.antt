-- `read_number` gives what `parse` reads without a plus.
use Rattle.std.proofs.Common.{◌≡◌, ◌≢◌, ℕ, ◌<◌, ◌^◌, ◌&&◌, Bool, true, false, List, [], ◌∷◌, length, get_or, Option, None, Some, Result, Ok, Err, if◌then◌else◌, nat_lt, refl, sym, arith}
use borrow.Author.Tests.{ltb-true, lt-ltb}
use Rattle.std.proofs.lemmas.Bool.Decides.{nat_tests}
use Rattle.std.proofs.lemmas.Str.Parse.{IsNumeralModel, numerals_by_value, tells_all_ascii_digits, parse_plain}
use Rattle.std.specs.Result.{OkIff, result_ok}
use Rattle.std.specs.Str.{all_ascii_digits}
use Rattle.std.specs.Str.Parse.{ParsesUnsigned, digits_value}
use Rattle.rsl_reply.specs.Words.{read_number}

digits : IsNumeralModel (λ ds. all_ascii_digits ds ≡ true) (digits_value 10)
digits = numerals_by_value _ tells_all_ascii_digits

abbrev IsNumber : List ℕ → Type 0
IsNumber word = (all_ascii_digits word ≡ true) × (0 < length word) × (digits_value 10 word < 2 ^ 32)

is_number : (word : List ℕ) → IsNumber word → read_number word ≡ Some (digits_value 10 word)
unfolding read_number
is_number word h = rw (h.0, lt-ltb 0 (length word) h.1, lt-ltb (digits_value 10 word) (2 ^ 32) h.2)

too_great : (len value : ℕ) (number : Option ℕ) → (0 < len → value < 2 ^ 32 → ⊥) → (if (nat_lt 0 len && true) && nat_lt value (2 ^ 32) then number else None) ≡ None
too_great len value number h = by (nat_lt 0 len) (nat_lt value (2 ^ 32)) refl refl
  where
    by : (a b : Bool) → nat_lt 0 len ≡ a → nat_lt value (2 ^ 32) ≡ b → (if (nat_lt 0 len && true) && nat_lt value (2 ^ 32) then number else None) ≡ None
    by true true some small = absurd (h (ltb-true 0 len some) (ltb-true value (2 ^ 32) small))
    by true false some small = rw (some, small)
    by false b some small = rw some

not_digits : (word : List ℕ) → all_ascii_digits word ≡ false → read_number word ≡ None
unfolding read_number
not_digits word e = rw e (grind (arith, nat_tests))

no_number : (word : List ℕ) → ¬ (IsNumber word) → read_number word ≡ None
unfolding read_number
no_number word h = by (all_ascii_digits word) refl
  where
    by : (b : Bool) → all_ascii_digits word ≡ b → read_number word ≡ None
    by true e = rw e (too_great (length word) (digits_value 10 word) _ (λ some small. h (e, some, small)))
    by false e = not_digits word e

parsed_number : {E : Type 0} (word : List ℕ) (r : Result ℕ E) → OkIff r (IsNumber word) (digits_value 10 word) → result_ok r ≡ read_number word
parsed_number word (Ok x) h = rw h.1 (sym (is_number word h.0))
parsed_number word (Err e) h = sym (no_number word h)

pub number_of_parsed : {E : Type 0} (word : List ℕ) (r : Result ℕ E) → ParsesUnsigned 32 10 word r → get_or word 0 0 ≢ 43 → result_ok r ≡ read_number word
number_of_parsed word r h plain = parsed_number word r (parse_plain digits 32 word r h plain)

pub number_of_plus : (word : List ℕ) → get_or word 0 0 ≡ 43 → read_number word ≡ None
number_of_plus [] e = not_digits_none
  where
    not_digits_none : read_number [] ≡ None
    not_digits_none = no_number [] (λ h. absurd (omega (arith, h.1)))
number_of_plus (octet ∷ rest) e = not_digits (octet ∷ rest) (rw e)
