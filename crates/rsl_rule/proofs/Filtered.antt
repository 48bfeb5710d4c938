-- What a list contains, and what a filter keeps of it.
use Rattle.std.proofs.Common.{◌≡◌, ℕ, List, [], ◌∷◌, get_or, Bool, true, false, cond, refl, sym, ◌∙◌, subst, arith}
use Rattle.std.specs.Prelude.{◌↔◌, Some, None, All, Any, Contains, filter, find}
use Rattle.std.proofs.lemmas.List.Elements.{All-nil, All-cons, All-weaker, All-contains, All-contains_itself, All-filter, Contains-append_right, filter_passes}

pub contains_one : (xs : List ℕ) (x : ℕ) → Any (λ y. y ≡ x) xs → Contains xs x
contains_one xs x one = (one.0, one.2, subst (λ y. get_or xs one.0 y ≡ y) one.4 one.3)

kept : (p : ℕ → Bool) (xs : List ℕ) → All (λ x. p x ≡ true → Contains (filter p xs) x) xs
kept p [] = All-nil _
kept p (y ∷ ys) = by_cases (p y) refl (kept p ys) where
  by_cases : (here : Bool) → p y ≡ here → All (λ x. p x ≡ true → Contains (filter p ys) x) ys
      → All (λ x. p x ≡ true → Contains (cond here (y ∷ filter p ys) (filter p ys)) x) (y ∷ ys)
  by_cases true is rest =
      All-cons (λ x. p x ≡ true → Contains (y ∷ filter p ys) x) y ys (λ passes. (0, (omega arith), refl))
      (All-weaker (λ x. p x ≡ true → Contains (filter p ys) x) (λ x. p x ≡ true → Contains (y ∷ filter p ys) x)
      (λ x older passes. Contains-append_right (y ∷ []) (filter p ys) x (older passes)) ys rest)
  by_cases false is rest =
      All-cons (λ x. p x ≡ true → Contains (filter p ys) x) y ys (λ passes. let contradiction : false ≡ true = sym is ∙ passes in cc) rest

-- a filter keeps exactly what passes
pub filter_keeps : (p : ℕ → Bool) (xs : List ℕ) (x : ℕ) → Contains (filter p xs) x ↔ (Contains xs x × (p x ≡ true))
filter_keeps p xs x = (
  (λ has. (
    All-contains (Contains xs) (filter p xs) x (All-filter p (Contains xs) xs (All-contains_itself xs)) has,
    All-contains (λ y. p y ≡ true) (filter p xs) x (filter_passes p xs) has,
  )),
  (λ has. All-contains (λ y. p y ≡ true → Contains (filter p xs) y) xs x (kept p xs) has.0 has.1),
)

-- where nothing is found nothing passes
pub none_passes : (p : ℕ → Bool) (xs : List ℕ) → find p xs ≡ None → All (λ x. p x ≡ false) xs
none_passes p [] none = All-nil _
none_passes p (y ∷ ys) none = by_cases (p y) refl none (none_passes p ys) where
  by_cases : (here : Bool) → p y ≡ here → cond here (Some y) (find p ys) ≡ None → (find p ys ≡ None → All (λ x. p x ≡ false) ys) → All (λ x. p x ≡ false) (y ∷ ys)
  by_cases true is none rest = cc
  by_cases false is none rest = All-cons (λ x. p x ≡ false) y ys is (rest none)
