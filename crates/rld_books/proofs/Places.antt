-- The places that links take, where links are left out and access servers get other numbers.
use Rattle.std.proofs.Common.{◌≡◌, ℕ, suc, ◌+◌, ◌-◌, ◌*◌, ◌<◌, ◌≤◌, List, [], ◌∷◌, ◌++◌, map, Bool, true, false, cond, refl, ap, sym, ◌∙◌, inl, inr, ◌⊎◌, arith, append-nil, append_assoc}
use Rattle.std.specs.Prelude.{Option, Some, None, filter, count_by}
use Rattle.std.specs.Option.{option_map}
use Rattle.std.specs.Int.{div_ceil}
use Rattle.std.proofs.Math.Nat.{mul-le-mul_right, suc-mul}
use Rattle.std.proofs.lemmas.Bool.{cases_lt}
use Rattle.std.proofs.lemmas.Grind.{div_ceil_times}
use Rattle.std.proofs.lemmas.List.Sums.{sum_by-cons}
use Rattle.rsl_session.specs.declared.bundle.Bundle.{Bundle}
use Rattle.rsl_session.specs.Same.{same_bundle}
use Rattle.rsl_session.specs.Places.{places_of, is_bundle}
use Rattle.rsl_session.proofs.Callers.{places_of-Some, places_of_alone, places_of_front}

module _ (ports : ℕ) (some : 0 < ports) where
  -- a link more, wherever it stands, adds no place or one
  pub more : (x : Option Bundle) (xs ys : List (Option Bundle)) → places_of ports (xs ++ ys) ≤ places_of ports (xs ++ x ∷ ys)
  more None xs ys = let alone = places_of_alone ports xs ys some in omega arith
  more (Some bundle) xs ys =
      let front = places_of_front ports (Some bundle) xs ys some in
      let adds = places_of-Some ports bundle (xs ++ ys) some in
      omega arith

  pub front_fits : (xs ys : List (Option Bundle)) → places_of ports xs ≤ places_of ports (xs ++ ys)
  front_fits xs [] = let same : places_of ports (xs ++ []) ≡ places_of ports xs = ap (places_of ports) (append-nil xs) in omega arith
  front_fits xs (y ∷ ys) = omega (arith, front_fits xs ys, more y xs ys)

  -- a link more at the end adds one place at most
  one_share : (m : ℕ) → div_ceil (suc m) ports ≤ div_ceil m ports + 1
  one_share m = by (cases_lt (div_ceil m ports + 1) (div_ceil (suc m) ports))
    where
      by : (div_ceil m ports + 1 < div_ceil (suc m) ports) ⊎ (div_ceil (suc m) ports ≤ div_ceil m ports + 1) → div_ceil (suc m) ports ≤ div_ceil m ports + 1
      by (inr few) = few
      by (inl many) =
          let old = div_ceil_times m ports some in
          let new = div_ceil_times (suc m) ports some in
          let times : suc (suc (div_ceil m ports)) * ports ≤ div_ceil (suc m) ports * ports = mul-le-mul_right ports (omega (arith, many)) in
          let long : suc (suc (div_ceil m ports)) * ports ≡ div_ceil m ports * ports + ports + ports = suc-mul (suc (div_ceil m ports)) ports ∙ ap (λ n. n + ports) (suc-mul (div_ceil m ports) ports) in
          absurd (omega (arith, old.0, new.1, times, long, some))

  pub full : (x : Option Bundle) (xs : List (Option Bundle)) → places_of ports (xs ++ x ∷ []) ≤ places_of ports xs + 1
  full None xs =
      let alone = places_of_alone ports xs [] some in
      let same : places_of ports (xs ++ []) ≡ places_of ports xs = ap (places_of ports) (append-nil xs) in
      omega arith
  full (Some bundle) xs =
      let front = places_of_front ports (Some bundle) xs [] some in
      let same : places_of ports (Some bundle ∷ xs ++ []) ≡ places_of ports (Some bundle ∷ xs) = ap (λ l. places_of ports (Some bundle ∷ l)) (append-nil xs) in
      let adds = places_of-Some ports bundle xs some in
      omega (arith, front, same, adds, one_share (count_by (is_bundle bundle) xs))

  -- links that are left out take no places
  pub fewer : {X : Type 0} (f : X → Option Bundle) (keep : X → Bool) (before : List (Option Bundle)) (xs : List X)
      → places_of ports (before ++ map f (filter keep xs)) ≤ places_of ports (before ++ map f xs)
  fewer f keep before [] = omega arith
  fewer f keep before (x ∷ xs) = by (keep x) (fewer f keep before xs) (fewer f keep (before ++ f x ∷ []) xs)
    where
      by : (kept : Bool) → places_of ports (before ++ map f (filter keep xs)) ≤ places_of ports (before ++ map f xs)
          → places_of ports ((before ++ f x ∷ []) ++ map f (filter keep xs)) ≤ places_of ports ((before ++ f x ∷ []) ++ map f xs)
          → places_of ports (before ++ map f (cond kept (x ∷ filter keep xs) (filter keep xs))) ≤ places_of ports (before ++ f x ∷ map f xs)
      by true without with = rw (append_assoc before (f x ∷ []) (map f (filter keep xs)), append_assoc before (f x ∷ []) (map f xs)) at with
      by false without with = omega (arith, without, more (f x) before (map f xs))

-- ---- bundles under other names

-- each bundle is one of those that are told apart
unfoldable pub AreOf : (Bundle → Type 0) → List (Option Bundle) → Type 0
AreOf P [] = Unit {0}
AreOf P (None ∷ xs) = AreOf P xs
AreOf P (Some bundle ∷ xs) = P bundle × AreOf P xs

module _ (P : Bundle → Type 0) (name : Bundle → Bundle) (apart : (a b : Bundle) → P a → P b → same_bundle (name a) (name b) ≡ same_bundle a b) where
  same_members : (bundle : Bundle) (xs : List (Option Bundle)) → P bundle → AreOf P xs → count_by (is_bundle (name bundle)) (map (option_map name) xs) ≡ count_by (is_bundle bundle) xs
  unfolding AreOf
  same_members bundle [] is all = refl
  same_members bundle (None ∷ xs) is all =
      sum_by-cons (λ x. cond (is_bundle (name bundle) x) 1 0) None (map (option_map name) xs) ∙ ap (λ n. 0 + n) (same_members bundle xs is all)
      ∙ sym (sum_by-cons (λ x. cond (is_bundle bundle x) 1 0) None xs)
  same_members bundle (Some other ∷ xs) is all =
      sum_by-cons (λ x. cond (is_bundle (name bundle) x) 1 0) (Some (name other)) (map (option_map name) xs)
      ∙ ap (λ (t : Bool). cond t 1 0 + count_by (is_bundle (name bundle)) (map (option_map name) xs)) (apart other bundle all.0 is)
      ∙ ap (λ n. cond (same_bundle other bundle) 1 0 + n) (same_members bundle xs is all.1)
      ∙ sym (sum_by-cons (λ x. cond (is_bundle bundle x) 1 0) (Some other) xs)

  -- the places are the same under other names
  pub same_places : (ports : ℕ) (xs : List (Option Bundle)) → 0 < ports → AreOf P xs → places_of ports (map (option_map name) xs) ≡ places_of ports xs
  unfolding AreOf
  same_places ports [] some all = refl
  same_places ports (None ∷ xs) some all =
      places_of_alone ports [] (map (option_map name) xs) some ∙ ap (λ n. n + 1) (same_places ports xs some all) ∙ sym (places_of_alone ports [] xs some)
  same_places ports (Some bundle ∷ xs) some all =
      places_of-Some ports (name bundle) (map (option_map name) xs) some
      ∙ ap (λ m. places_of ports (map (option_map name) xs) + (div_ceil (suc m) ports - div_ceil m ports)) (same_members bundle xs all.0 all.1)
      ∙ ap (λ n. n + (div_ceil (suc (count_by (is_bundle bundle) xs)) ports - div_ceil (count_by (is_bundle bundle) xs) ports)) (same_places ports xs some all.1)
      ∙ sym (places_of-Some ports bundle xs some)
