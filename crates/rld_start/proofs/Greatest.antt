-- The greatest of the numbers of elements, one element after the other.
use Rattle.std.proofs.Common.{◌≡◌, ℕ, ◌+◌, ◌<◌, ◌≤◌, List, [], ◌∷◌, zero, suc, Contains, arith, length, get_or, take, sym, ap, ◌∙◌}
use Rattle.std.specs.List.{fold}
use Rattle.std.proofs.lemmas.List.Sums.{fold_more}
use Rattle.rld_start.specs.Numbers.{greatest_by, greatest_of}

-- the greatest with one element more
pub one_more : {X : Type 0} (number_of : X → ℕ) (xs : List X) (i : ℕ) (d : X) (most next : ℕ)
    → i < length xs → most ≡ greatest_by number_of (take i xs)
    → next ≡ greatest_of most (number_of (get_or xs i d)) → next ≡ greatest_by number_of (take (i + 1) xs)
one_more number_of xs i d most next within so_far is =
    is
    ∙ ap (λ (n : ℕ). greatest_of n (number_of (get_or xs i d))) so_far
    ∙ sym (fold_more (λ most x. greatest_of most (number_of x)) 0 xs i d within)

-- the greater of two numbers is no less than either
greater_left : (some other : ℕ) → some ≤ greatest_of some other
greater_left some other = grind arith

greater_right : (some other : ℕ) → other ≤ greatest_of some other
greater_right some other = grind arith

module _ {X : Type 0} (number_of : X → ℕ) where
  grows : (most : ℕ) (xs : List X) → most ≤ fold (λ most x. greatest_of most (number_of x)) most xs
  grows most [] = omega arith
  grows most (x ∷ xs) =
      let step : most ≤ greatest_of most (number_of x) = greater_left most (number_of x) in
      let rest : greatest_of most (number_of x) ≤ fold (λ most x. greatest_of most (number_of x)) (greatest_of most (number_of x)) xs =
      grows (greatest_of most (number_of x)) xs in
      omega (arith, step, rest)

  below : (most : ℕ) (xs : List X) (x : X) (k : ℕ) → k < length xs → get_or xs k x ≡ x
      → number_of x ≤ fold (λ most x. greatest_of most (number_of x)) most xs
  below most [] x k within is = absurd (omega (arith, within))
  below most (y ∷ xs) x zero within is =
      let step : number_of y ≤ greatest_of most (number_of y) = greater_right most (number_of y) in
      let rest : greatest_of most (number_of y) ≤ fold (λ most x. greatest_of most (number_of x)) (greatest_of most (number_of y)) xs =
      grows (greatest_of most (number_of y)) xs in
      let same : number_of y ≡ number_of x = ap number_of is in
      omega (arith, step, rest, same)
  below most (y ∷ xs) x (suc k) within is = below (greatest_of most (number_of y)) xs x k (omega (arith, within)) is

  -- no element has a greater number than the greatest
  pub at_most : (xs : List X) (x : X) → Contains xs x → number_of x ≤ greatest_by number_of xs
  at_most xs x there = below 0 xs x there.0 there.1 there.2
