-- Whether a list of octets comes twice, as a loop over what has it finds out.
use Rattle.std.proofs.Common.{◌≡◌, ℕ, ◌+◌, ◌<◌, Bool, true, false, not, ◌||◌, if◌then◌else◌, List, [], ◌∷◌, ◌++◌, length, map, get_or, take, drop, refl, sym, ap, ◌∙◌}
use Rattle.std.proofs.lemmas.List.{take_more, map-append, take-append-drop}
use Rattle.std.proofs.lemmas.List.Folds.{list_any-append}
use Rattle.std.proofs.lemmas.List.{length-map}
use Rattle.indexmap.specs.IndexSet.{insert_key}
use Rattle.std.specs.List.{list_any, position, position_or_len}
use Rattle.rsl_accounts.specs.Configuration.{same_octets, comes_twice}

pub list_any-map : {X Y : Type 0} (p : Y → Bool) (f : X → Y) (xs : List X) → list_any p (map f xs) ≡ list_any (λ x. p (f x)) xs
list_any-map p f [] = refl
list_any-map p f (x ∷ xs) = ap (λ b. p (f x) || b) (list_any-map p f xs)

-- a test finds the same in two lists that show the same
pub list_any-same : {X Y Z : Type 0} (p : Z → Bool) (f : X → Z) (g : Y → Z) (xs : List X) (ys : List Y) → map f xs ≡ map g ys → list_any (λ x. p (f x)) xs ≡ list_any (λ y. p (g y)) ys
list_any-same p f g xs ys same = sym (list_any-map p f xs) ∙ ap (list_any p) same ∙ list_any-map p g ys

regroup : (a s c l : Bool) → ((a || (s || false)) || (c || l)) ≡ ((a || c) || (s || l))
regroup true s c l = refl
regroup false true true l = refl
regroup false true false l = refl
regroup false false c l = refl

-- one more at the end comes twice if it was there
pub comes_twice-push : (xs : List (List ℕ)) (x : List ℕ) → comes_twice (xs ++ x ∷ []) ≡ (comes_twice xs || list_any (same_octets x) xs)
comes_twice-push [] x = refl
comes_twice-push (y ∷ xs) x =
    rw (list_any-append (λ later. same_octets later y) xs (x ∷ []), comes_twice-push xs x)
    (regroup (list_any (λ later. same_octets later y) xs) (same_octets x y) (comes_twice xs) (list_any (same_octets x) xs))

still : (a b c d : Bool) → (c ≡ true → d ≡ true) → (a || c) ≡ true → ((a || b) || d) ≡ true
still true b c d more twice = refl
still false true c d more twice = refl
still false false c d more twice = more twice

-- what comes twice still does in a longer list
pub comes_twice-append : (xs ys : List (List ℕ)) → comes_twice xs ≡ true → comes_twice (xs ++ ys) ≡ true
comes_twice-append [] ys twice = cc
comes_twice-append (x ∷ xs) ys twice =
    rw (list_any-append (λ later. same_octets later x) xs ys)
    (still (list_any (λ later. same_octets later x) xs) (list_any (λ later. same_octets later x) ys) (comes_twice xs) (comes_twice (xs ++ ys)) (comes_twice-append xs ys) twice)

module _ {X : Type 0} (f : X → List ℕ) (xs : List X) (i : ℕ) (x : X) (within : i < length xs) (is : x ≡ get_or xs i x) where
  one_more : comes_twice (map f (take (i + 1) xs)) ≡ (comes_twice (map f (take i xs)) || list_any (λ y. same_octets (f x) (f y)) (take i xs))
  one_more =
      ap (λ l. comes_twice (map f l)) (take_more xs i x within)
      ∙ ap (λ y. comes_twice (map f (take i xs ++ y ∷ []))) (sym is)
      ∙ ap comes_twice (map-append f (take i xs) (x ∷ []))
      ∙ comes_twice-push (map f (take i xs)) (f x)
      ∙ ap (λ b. comes_twice (map f (take i xs)) || b) (list_any-map (same_octets (f x)) f (take i xs))

  -- a loop goes on past an element that was not there
  pub not_twice : comes_twice (map f (take i xs)) ≡ false → list_any (λ y. same_octets (f x) (f y)) (take i xs) ≡ false → comes_twice (map f (take (i + 1) xs)) ≡ false
  not_twice before new = one_more ∙ rw (before, new)

  -- and stops at the first that was
  pub twice : comes_twice (map f (take i xs)) ≡ false → list_any (λ y. same_octets (f x) (f y)) (take i xs) ≡ true → comes_twice (map f xs) ≡ true
  twice before again =
      let front : comes_twice (map f (take (i + 1) xs)) ≡ true = one_more ∙ rw (before, again) in
      ap (λ l. comes_twice (map f l)) (sym (take-append-drop (i + 1) xs))
      ∙ ap comes_twice (map-append f (take (i + 1) xs) (drop (i + 1) xs))
      ∙ comes_twice-append (map f (take (i + 1) xs)) (map f (drop (i + 1) xs)) front

pub ruleset twice_steps = (not_twice, twice)

flip : (b : Bool) {added said : Bool} → added ≡ not b → added ≡ said → b ≡ not said
flip true is was = ap not (sym is ∙ was)
flip false is was = ap not (sym is ∙ was)

-- an index that has the elements that a loop has passed, and is given the next one
module _ {K X : Type 0} (g : K → List ℕ) (f : X → List ℕ) (keys : List K) (xs : List X) (i : ℕ) (x : X) (within : i < length xs) (is : x ≡ get_or xs i x)
    (k : K) (key : g k ≡ f x) (indexed : map g keys ≡ map f (take i xs)) (before : comes_twice (map f (take i xs)) ≡ false)
    (added : Bool) (says : added ≡ not (list_any (λ y. same_octets (g k) (g y)) keys)) where
  found_in_both : list_any (λ y. same_octets (f x) (f y)) (take i xs) ≡ list_any (λ y. same_octets (g k) (g y)) keys
  found_in_both = rw key (sym (list_any-same (same_octets (f x)) g f keys (take i xs) indexed))

  -- it refuses what comes twice
  pub key_refused : added ≡ false → comes_twice (map f xs) ≡ true
  key_refused refused = twice f xs i x within is before (found_in_both ∙ flip _ says refused)

  -- and takes anything else at its end
  pub key_added : added ≡ true → (new : List K) → new ≡ insert_key (λ k y. same_octets (g k) (g y)) keys k → (map g new ≡ map f (take (i + 1) xs)) × (comes_twice (map f (take (i + 1) xs)) ≡ false)
  key_added taken new put =
      let absent : list_any (λ y. same_octets (g k) (g y)) keys ≡ false = flip _ says taken in
      let last : new ≡ keys ++ k ∷ [] = put ∙ rw absent in (
        ap (map g) last
            ∙ map-append g keys (k ∷ [])
            ∙ rw (indexed, key)
            (ap (λ y. map f (take i xs) ++ f y ∷ []) is
            ∙ sym (map-append f (take i xs) (get_or xs i x ∷ []))
            ∙ ap (map f) (sym (take_more xs i x within))),
        not_twice f xs i x within is before (found_in_both ∙ absent),
      )

-- the first index of a text is the same in two lists that show the same
pub position-same : {K X : Type 0} (g : K → List ℕ) (f : X → List ℕ) (keys : List K) (xs : List X) (text : List ℕ) → map g keys ≡ map f xs → position (λ k. same_octets text (g k)) keys ≡ position (λ x. same_octets text (f x)) xs
position-same g f keys xs text same =
    sym (position-map (same_octets text) g keys) ∙ ap (position (same_octets text)) same ∙ position-map (same_octets text) f xs
  where
    place : {X Y : Type 0} (p : Y → Bool) (f : X → Y) (xs : List X) → position_or_len p (map f xs) ≡ position_or_len (λ x. p (f x)) xs
    place p f [] = refl
    place p f (x ∷ xs) = ap (λ n. if not (p (f x)) then 1 + n else 0) (place p f xs)

    position-map : {X Y : Type 0} (p : Y → Bool) (f : X → Y) (xs : List X) → position p (map f xs) ≡ position (λ x. p (f x)) xs
    position-map p f xs = rw (place p f xs, length-map xs f)
