-- The places of some links, bundle by bundle.
use Rattle.std.proofs.Common.{◌≡◌, ℕ, ◌+◌, ◌<◌, ◌≤◌, List, [], ◌∷◌, drop, get_or, length, Bool, true, false, cond, ◌||◌, refl, ap, sym, ◌∙◌, arith}
use Rattle.std.specs.Prelude.{Option, Some, None, count_by, sum_by, is_none}
use Rattle.std.specs.Int.{div_ceil}
use Rattle.std.specs.List.{list_any}
use Rattle.std.proofs.lemmas.List.{drop_more, drop_all, take_rest}
use Rattle.std.proofs.lemmas.List.Sums.{sum_by-cons}
use Rattle.rsl_session.specs.declared.bundle.Bundle.{Bundle}
use Rattle.rsl_session.specs.Places.{places_of, each_bundle, is_bundle}
use Rattle.rsl_session.proofs.Callers.{places_of-le}

-- the places that the links of a list add, where a bundle's share is that of the whole
unfoldable pub places_left : ℕ → List (Option Bundle) → List (Option Bundle) → ℕ
places_left ports whole xs =
    count_by is_none xs + sum_by (λ bundle. div_ceil (count_by (is_bundle bundle) whole) ports) (each_bundle xs)

pub places_all : (ports : ℕ) (whole : List (Option Bundle)) → places_left ports whole whole ≡ places_of ports whole
unfolding places_left places_of
places_all ports whole = refl

pub places_end : (ports : ℕ) (whole : List (Option Bundle)) (i : ℕ) → length whole ≤ i → places_left ports whole (drop i whole) ≡ 0
unfolding places_left each_bundle
places_end ports whole i all = rw (drop_all i whole all) refl

-- no bundle in the list
none_left : (bundle : Bundle) (xs : List (Option Bundle)) → count_by (is_bundle bundle) xs ≡ 0 → list_any (is_bundle bundle) xs ≡ false
none_left bundle [] none = refl
none_left bundle (x ∷ xs) none =
    let count = sum_by-cons (λ one. cond (is_bundle bundle one) 1 0) x xs in
    by_cases bundle x xs (is_bundle bundle x) (none_left bundle xs) (sym count ∙ none) where
      by_cases : (bundle : Bundle) (x : Option Bundle) (xs : List (Option Bundle)) (here : Bool) → (count_by (is_bundle bundle) xs ≡ 0 → list_any (is_bundle bundle) xs ≡ false)
          → cond here 1 0 + count_by (is_bundle bundle) xs ≡ 0 → (here || list_any (is_bundle bundle) xs) ≡ false
      by_cases bundle x xs true rest none = absurd (omega arith)
      by_cases bundle x xs false rest none = rest (omega arith)

-- a bundle in the list
some_left : (bundle : Bundle) (xs : List (Option Bundle)) → (count_by (is_bundle bundle) xs ≡ 0 → ⊥) → list_any (is_bundle bundle) xs ≡ true
some_left bundle [] some = absurd (some refl)
some_left bundle (x ∷ xs) some =
    by_cases bundle x xs (is_bundle bundle x) (some_left bundle xs) (λ none. some (sum_by-cons (λ one. cond (is_bundle bundle one) 1 0) x xs ∙ none)) where
      by_cases : (bundle : Bundle) (x : Option Bundle) (xs : List (Option Bundle)) (here : Bool) → ((count_by (is_bundle bundle) xs ≡ 0 → ⊥) → list_any (is_bundle bundle) xs ≡ true)
          → (cond here 1 0 + count_by (is_bundle bundle) xs ≡ 0 → ⊥) → (here || list_any (is_bundle bundle) xs) ≡ true
      by_cases bundle x xs true rest some = refl
      by_cases bundle x xs false rest some = rest (λ none. some (omega (arith, none)))

at_place : (whole : List (Option Bundle)) (i : ℕ) (x : Option Bundle) → i < length whole → x ≡ get_or whole i x → drop i whole ≡ x ∷ drop (i + 1) whole
at_place whole i x within is = drop_more whole i x within ∙ ap (λ y. y ∷ drop (i + 1) whole) (sym is)

pub places_alone : (ports : ℕ) (whole : List (Option Bundle)) (i : ℕ) (x : Option Bundle) → i < length whole → x ≡ get_or whole i x → x ≡ None
    → places_left ports whole (drop i whole) ≡ places_left ports whole (drop (i + 1) whole) + 1
unfolding places_left each_bundle
places_alone ports whole i x within is none =
    let here : drop i whole ≡ None ∷ drop (i + 1) whole = at_place whole i x within is ∙ ap (λ y. y ∷ drop (i + 1) whole) none in
    rw here (omega (arith, sum_by-cons (λ (one : Option Bundle). cond (is_none one) 1 0) None (drop (i + 1) whole)))

pub places_last : (ports : ℕ) (whole : List (Option Bundle)) (i : ℕ) (x : Option Bundle) (bundle : Bundle) → i < length whole → x ≡ get_or whole i x → x ≡ Some bundle
    → count_by (is_bundle bundle) (drop (i + 1) whole) ≡ 0
    → places_left ports whole (drop i whole) ≡ places_left ports whole (drop (i + 1) whole) + div_ceil (count_by (is_bundle bundle) whole) ports
unfolding places_left each_bundle
places_last ports whole i x bundle within is some last =
    let here : drop i whole ≡ Some bundle ∷ drop (i + 1) whole = at_place whole i x within is ∙ ap (λ y. y ∷ drop (i + 1) whole) some in
    rw (here, none_left bundle (drop (i + 1) whole) last)
    (omega (
      arith,
      sum_by-cons (λ (one : Option Bundle). cond (is_none one) 1 0) (Some bundle) (drop (i + 1) whole),
      sum_by-cons (λ one. div_ceil (count_by (is_bundle one) whole) ports) bundle (each_bundle (drop (i + 1) whole)),
    ))

pub places_earlier : (ports : ℕ) (whole : List (Option Bundle)) (i : ℕ) (x : Option Bundle) (bundle : Bundle) → i < length whole → x ≡ get_or whole i x → x ≡ Some bundle
    → (count_by (is_bundle bundle) (drop (i + 1) whole) ≡ 0 → ⊥)
    → places_left ports whole (drop i whole) ≡ places_left ports whole (drop (i + 1) whole)
unfolding places_left each_bundle
places_earlier ports whole i x bundle within is some more =
    let here : drop i whole ≡ Some bundle ∷ drop (i + 1) whole = at_place whole i x within is ∙ ap (λ y. y ∷ drop (i + 1) whole) some in
    rw (here, some_left bundle (drop (i + 1) whole) more)
    (omega (arith, sum_by-cons (λ (one : Option Bundle). cond (is_none one) 1 0) (Some bundle) (drop (i + 1) whole)))

pub ruleset places_steps = (places_all, places_end, places_alone, places_last, places_earlier, places_of-le, take_rest)
