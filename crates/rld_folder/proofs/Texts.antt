-- Names that begin with a text and end with numbers.
use Rattle.std.proofs.Common.{◌≡◌, ◌≢◌, ℕ, suc, zero, ◌<◌, ◌^◌, ◌++◌, List, [], ◌∷◌, length, drop, get_or, Bor, Option, None, Some, Result, refl, ap, sym, ◌∙◌, arith}
use Rattle.std.specs.Option.{MatchOption}
use Rattle.std.specs.Result.{result_ok}
use Rattle.std.specs.Str.Pattern.{FindsTextPrefix, StripsPrefix}
use Rattle.std.specs.Str.Parse.{AllDigits, ParsesUnsigned}
use Rattle.std.specs.Fmt.{decimal}
use Rattle.std.proofs.lemmas.Fmt.{decimal_is_IsNumeral, parse-decimal}
use Rattle.std.proofs.lemmas.List.{length-append}
use Rattle.std.proofs.lemmas.Str.Parse.{digit_from_value}
use Rattle.std.proofs.lemmas.Str.Pattern.{IsSplitOnceResult, split_after, split_parts}
use lib.Seq.{drop_at, get_or-append_seam}

-- what is left of a text behind its beginning
pub stripped : (p s rest : List ℕ) (r : Option (Bor (List ℕ)))
    → MatchOption r (FindsTextPrefix p s None) (λ x. StripsPrefix (FindsTextPrefix p) s x.now)
    → s ≡ p ++ rest → MatchOption r ⊥ (λ x. x.now ≡ rest)
stripped p s rest None h e = h rest e
stripped p s rest (Some x) h e = h.2 ∙ ap (drop h.0) e ∙ drop_at p rest h.0 (sym h.1.0)

no_minus : (ds : List ℕ) → AllDigits 10 ds → (i : ℕ) → i < length ds → get_or ds i 0 ≢ 45
no_minus [] d i l e = absurd (omega (arith, l))
no_minus (c ∷ cs) d zero l e = omega (arith, digit_from_value c d.0)
no_minus (c ∷ cs) d (suc i) l e = no_minus cs d.1 i (omega arith) e

-- the two numbers on both sides of a minus
pub numbers_split : (era number : ℕ) (bs : List ℕ) (r : Option (Bor (List ℕ) × Bor (List ℕ)))
    → IsSplitOnceResult 45 bs r → era < 2 ^ 64 → bs ≡ decimal era ++ (45 ∷ decimal number)
    → MatchOption r ⊥ (λ x. (x.0.now ≡ decimal era) × (x.1.now ≡ decimal number))
numbers_split era number bs r h fits e =
    split_after 45 bs (decimal era) (decimal number) r h (omega arith) e
    (no_minus (decimal era) (decimal_is_IsNumeral era fits).0.1)

-- no minus stands in a number alone
pub number_alone : (number : ℕ) (bs : List ℕ) (r : Option (Bor (List ℕ) × Bor (List ℕ)))
    → IsSplitOnceResult 45 bs r → number < 2 ^ 64 → bs ≡ decimal number → r ≡ None
number_alone number bs None h fits e = refl
number_alone number bs (Some x) h fits e =
    let parts = split_parts 45 bs (Some x) h (omega arith) in
    let whole = sym e ∙ parts.0 in
    absurd (no_minus (decimal number) (decimal_is_IsNumeral number fits).0.1 (length x.0.now)
    (omega (arith, ap length whole, length-append x.0.now (45 ∷ x.1.now)))
    (ap (λ l. get_or l (length x.0.now) 0) whole ∙ get_or-append_seam x.0.now 45 x.1.now 0))

-- what is left behind a beginning that stands there
pub begun : (p s : List ℕ) (r : Option (Bor (List ℕ)))
    → MatchOption r (FindsTextPrefix p s None) (λ x. StripsPrefix (FindsTextPrefix p) s x.now)
    → (x : Bor (List ℕ)) → r ≡ Some x → (rest : List ℕ) × (s ≡ p ++ rest)
begun p s None h x e = absurd (grind (arith, e))
begun p s (Some y) h x e = (drop h.0 s, h.1.1)

-- a number is what its own text writes
pub number_parsed : {E : Type 0} (bs : List ℕ) (r : Result ℕ E) → ParsesUnsigned 64 10 bs r
    → (number : ℕ) → number < 2 ^ 64 → bs ≡ decimal number → result_ok r ≡ Some number
number_parsed bs r h number small e = ap result_ok (parse-decimal 64 number bs r small small e h)
