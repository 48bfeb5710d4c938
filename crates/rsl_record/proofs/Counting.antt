-- How often a position stands among others.
use Rattle.std.proofs.Common.{◌≡◌, List, [], ◌∷◌, refl, sym, ap, ◌∙◌, ℕ, zero, suc, ◌+◌, ◌<◌, ◌≤◌, ◌==◌, Bool, true, false, cond, Option, Some, None, length, add-one, arith}
use Rattle.std.specs.Prelude.{IfNone, IfSome, slice_index}
use Rattle.std.specs.List.{AllPairs, count_by, sum_by}
use Rattle.std.specs.List.Sorted.{IsNonDecreasingBy, IsPermutation, IsStrictlyIncreasing}
use Rattle.std.proofs.lemmas.Bool.{eq-eqb, eqb-true, ne_eqb}
use Rattle.std.proofs.lemmas.List.Kept.{AllPairs-from_increasing}
use Rattle.std.proofs.lemmas.List.Recursion.{is_count_by}
use Rattle.std.proofs.lemmas.List.Sums.{sum_by-cons}
use Rattle.std.proofs.lemmas.List.Sorted.{sum_by-IsPermutation}
use Rattle.rsl_record.specs.Receipts.{FallsTo}

-- ---- by a sum

one_if : (position : ℕ) → ℕ → ℕ
one_if position other = cond (other == position) 1 0

sum_at : (position : ℕ) → List ℕ → ℕ
sum_at position xs = sum_by (one_if position) xs

sum_first : (position x : ℕ) (xs : List ℕ) (t : Bool) → (x == position) ≡ t → sum_at position (x ∷ xs) ≡ cond t 1 0 + sum_at position xs
unfolding sum_at one_if
sum_first position x xs t test = sum_by-cons (one_if position) x xs ∙ ap (λ (b : Bool). cond b 1 0 + sum_at position xs) test

count_is_sum : (position : ℕ) (xs : List ℕ) → sum_at position xs ≡ count_by (λ (other : ℕ). other == position) xs
unfolding sum_at
count_is_sum position xs =
    is_count_by (sum_by (one_if position)) (λ (other : ℕ). other == position) refl (λ x ys. sum_first position x ys (x == position) refl ∙ by ys (x == position)) xs
  where
    by : (ys : List ℕ) (t : Bool) → cond t 1 0 + sum_at position ys ≡ cond t (1 + sum_at position ys) (sum_at position ys)
    by ys true = refl
    by ys false = omega arith

-- ---- once

-- a position that is none of them
sum_none : (position : ℕ) (xs : List ℕ) → ((i : ℕ) → i < length xs → slice_index xs i ≡ position → ⊥) → sum_at position xs ≡ 0
unfolding sum_at
sum_none position [] none = refl
sum_none position (x ∷ xs) none =
    omega (
      arith,
      sum_first position x xs false (ne_eqb x position (none 0 (omega arith))),
      sum_none position xs (λ i within is. none (suc i) (omega (arith, within)) is),
    )

-- of positions of which each is below the later ones each stands once
sum_pairs_by : (position x : ℕ) (xs : List ℕ) (t : Bool) → (x == position) ≡ t → AllPairs (λ (a b : ℕ). a < b) (x ∷ xs) → sum_at position xs ≤ 1
    → sum_at position (x ∷ xs) ≤ 1
sum_pairs_by position x xs true test pairs rest =
    let none : sum_at position xs ≡ 0 =
    sum_none position xs (λ i within is. omega (arith, pairs 0 (suc i) 0 (omega arith) (omega (arith, within)), is, eqb-true x position test)) in
    omega (arith, sum_first position x xs true test, none)
sum_pairs_by position x xs false test pairs rest = omega (arith, sum_first position x xs false test, rest)

sum_pairs : (position : ℕ) (xs : List ℕ) → AllPairs (λ (a b : ℕ). a < b) xs → sum_at position xs ≤ 1
unfolding sum_at
sum_pairs position [] pairs = omega arith
sum_pairs position (x ∷ xs) pairs =
    sum_pairs_by position x xs (x == position) refl pairs
    (sum_pairs position xs (λ i j d less within. pairs (suc i) (suc j) d (omega (arith, less)) (omega (arith, within))))

-- ---- twice

sum_more : (position x : ℕ) (xs : List ℕ) → sum_at position xs ≤ sum_at position (x ∷ xs)
sum_more position x xs = omega (arith, sum_first position x xs (x == position) refl)

-- it stands at the first index
sum_here : (position x : ℕ) (xs : List ℕ) → x ≡ position → sum_at position (x ∷ xs) ≡ 1 + sum_at position xs
sum_here position x xs is = sum_first position x xs true (eq-eqb x position is)

-- it stands at two places that follow one another
two_at : (position at : ℕ) (xs : List ℕ) → suc at < length xs → slice_index xs at ≡ position → slice_index xs (suc at) ≡ position → 1 < sum_at position xs
two_at position at [] within first second = absurd (omega (arith, within))
two_at position at (x ∷ []) within first second = absurd (omega (arith, within))
two_at position zero (x ∷ y ∷ xs) within first second = omega (arith, sum_here position x (y ∷ xs) first, sum_here position y xs second)
two_at position (suc at) (x ∷ y ∷ xs) within first second =
    omega (arith, two_at position at (y ∷ xs) (omega (arith, within)) first second, sum_more position x (y ∷ xs))

-- ---- in another order

count-permutation : (position : ℕ) (xs ys : List ℕ) → IsPermutation xs ys → sum_at position ys ≡ count_by (λ (other : ℕ). other == position) xs
unfolding sum_at
count-permutation position xs ys same = sum_by-IsPermutation (one_if position) xs ys same ∙ count_is_sum position xs

-- where the positions in order do not fall, none stands twice
pub once_in_order : (xs ys : List ℕ) (found : Option ℕ) → IsPermutation xs ys → IfNone found (IsStrictlyIncreasing ys)
    → IfNone found ((position : ℕ) → count_by (λ (other : ℕ). other == position) xs ≤ 1)
once_in_order xs ys None same rising =
    λ position. omega (arith, sum_pairs position ys (AllPairs-from_increasing ys rising), count-permutation position xs ys same)
once_in_order xs ys (Some position) same rising = tt

-- where they do, one does
pub twice_in_order : (xs ys : List ℕ) (found : Option ℕ) → IsPermutation xs ys → IsNonDecreasingBy (λ n. n) ys → IfSome found (FallsTo ys)
    → IfSome found (λ position. 1 < count_by (λ (other : ℕ). other == position) xs)
twice_in_order xs ys None same sorted falls = tt
twice_in_order xs ys (Some position) same sorted falls =
    let at = falls.0 in
    let within : suc at < length ys = omega (arith, falls.1.within) in
    let next : slice_index ys (suc at) ≡ position = ap (slice_index ys) (sym (add-one at)) ∙ falls.1.it in
    let here : slice_index ys at ≡ position = omega (arith, sorted at (suc at) 0 (omega arith) within, falls.1.falls, next) in
    omega (arith, two_at position at ys within here next, count-permutation position xs ys same)

pub ruleset order_steps = (once_in_order, twice_in_order)
