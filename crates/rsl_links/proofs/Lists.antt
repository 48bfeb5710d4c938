-- Loops over links: what is kept, found or changed of their views.
use Rattle.std.proofs.Common.{◌≡◌, ℕ, zero, suc, ◌+◌, ◌-◌, ◌<◌, ◌≤◌, List, [], ◌∷◌, ◌++◌, take, drop, get_or, length, map, Bool, true, false, cond, not, refl, ap, sym, ◌∙◌, subst, arith, add-one, append-nil, append_assoc, length-append}
use Rattle.std.specs.Prelude.{Some, None, filter, find}
use Rattle.std.proofs.lemmas.List.{take_more, drop_more, take_all, drop_all, take-map, drop-map, take-append-le, take-take, drop_at, map-append, length-take-le, get_or-take, get_or_append_left, get_or-map, length-map}
use Rattle.std.proofs.lemmas.Bool.{or_parts}
use Rattle.std.specs.List.{list_any}

-- the first of the rest of a list
keep_more : {B : Type 0} (orig : List B) (n i : ℕ) (y : B) → n ≡ i + 1 → n ≤ length orig → get_or orig i y ≡ y
    → (take n orig ≡ take i orig ++ y ∷ []) × (drop i orig ≡ y ∷ drop n orig)
keep_more orig n i y next within is =
    rw next (
      take_more orig i y (omega arith) ∙ ap (λ z. take i orig ++ z ∷ []) is,
      drop_more orig i y (omega arith) ∙ ap (λ z. z ∷ drop (i + 1) orig) is,
    )

module _ {A B : Type 0} where
  -- links that end, the last first: what is left of those that were looked at stands after the others
  keep_here : (f : A → B) (keep : B → Bool) (xs : List A) (orig : List B) (n i : ℕ) (x : A) → n ≡ i + 1 → n ≤ length orig → i < length xs → x ≡ get_or xs i x
      → map f xs ≡ take n orig ++ filter keep (drop n orig) → get_or orig i (f x) ≡ f x
  keep_here f keep xs orig n i x next within inside is so_far =
      let long : length (take n orig) ≡ n = length-take-le n orig within in
      let short : i < length (take n orig) = omega arith in
      sym (get_or-take n orig i (f x) (omega arith))
      ∙ sym (get_or_append_left (take n orig) (filter keep (drop n orig)) (f x) i short)
      ∙ ap (λ ys. get_or ys i (f x)) (sym so_far) ∙ get_or-map f xs i x (f x) inside ∙ ap f (sym is)

  pub keep_pass : (f : A → B) (ends : B → Bool) (xs : List A) (orig : List B) (n i : ℕ) (x : A) → n ≡ i + 1 → n ≤ length orig → i < length xs → x ≡ get_or xs i x
      → ends (f x) ≡ false → map f xs ≡ take n orig ++ filter (λ y. not (ends y)) (drop n orig)
      → map f xs ≡ take i orig ++ filter (λ y. not (ends y)) (drop i orig)
  keep_pass f ends xs orig n i x next within inside is stays so_far =
      let here = keep_here f (λ y. not (ends y)) xs orig n i x next within inside is so_far in
      let more = keep_more orig n i (f x) next within here in
      so_far ∙ ap (λ ys. ys ++ filter (λ y. not (ends y)) (drop n orig)) more.0
      ∙ append_assoc (take i orig) (f x ∷ []) (filter (λ y. not (ends y)) (drop n orig))
      ∙ ap (λ ys. take i orig ++ ys) (sym (ap (filter (λ y. not (ends y))) more.1 ∙ rw stays refl))

  pub keep_gone : (f : A → B) (ends : B → Bool) (xs : List A) (orig : List B) (n i : ℕ) (x : A) → n ≡ i + 1 → n ≤ length orig → i < length xs → x ≡ get_or xs i x
      → ends (f x) ≡ true → map f xs ≡ take n orig ++ filter (λ y. not (ends y)) (drop n orig)
      → map f (take i xs ++ drop (i + 1) xs) ≡ take i orig ++ filter (λ y. not (ends y)) (drop i orig)
  keep_gone f ends xs orig n i x next within inside is goes so_far =
      let here = keep_here f (λ y. not (ends y)) xs orig n i x next within inside is so_far in
      let more = keep_more orig n i (f x) next within here in
      let rest : filter (λ y. not (ends y)) (drop i orig) ≡ filter (λ y. not (ends y)) (drop n orig) =
      ap (filter (λ y. not (ends y))) more.1 ∙ rw goes refl in
      let long : length (take n orig) ≡ n = length-take-le n orig within in
      let front : map f (take i xs) ≡ take i orig =
      sym (take-map f i xs) ∙ ap (take i) so_far ∙ take-append-le i (take n orig) (filter (λ y. not (ends y)) (drop n orig)) (omega arith) ∙ take-take i n orig (omega arith) in
      let back : map f (drop (i + 1) xs) ≡ filter (λ y. not (ends y)) (drop n orig) =
      sym (drop-map f (i + 1) xs) ∙ ap (drop (i + 1)) so_far ∙ drop_at (take n orig) (filter (λ y. not (ends y)) (drop n orig)) (i + 1) (omega arith) in
      map-append f (take i xs) (drop (i + 1) xs) ∙ ap (λ ys. ys ++ map f (drop (i + 1) xs)) front ∙ ap (λ ys. take i orig ++ ys) (back ∙ sym rest)

module _ {A B : Type 0} where
  -- a search over the views of the rest
  pub find_yes : (p : B → Bool) (f : A → B) (xs : List A) (i : ℕ) (x : A) → i < length xs → x ≡ get_or xs i x → p (f x) ≡ true → find p (map f (drop i xs)) ≡ Some (f x)
  find_yes p f xs i x within is passes =
      ap (λ ys. find p (map f ys)) (drop_more xs i x within ∙ ap (λ y. y ∷ drop (i + 1) xs) (sym is)) ∙ rw passes refl

  pub find_no : (p : B → Bool) (f : A → B) (xs : List A) (i : ℕ) (x : A) → i < length xs → x ≡ get_or xs i x → p (f x) ≡ false → find p (map f (drop i xs)) ≡ find p (map f (drop (i + 1) xs))
  find_no p f xs i x within is misses =
      ap (λ ys. find p (map f ys)) (drop_more xs i x within ∙ ap (λ y. y ∷ drop (i + 1) xs) (sym is)) ∙ rw misses refl

  pub find_end : (p : B → Bool) (f : A → B) (xs : List A) (i : ℕ) → length xs ≤ i → find p (map f (drop i xs)) ≡ None
  find_end p f xs i all = ap (λ ys. find p (map f ys)) (drop_all i xs all)

  -- whether one of the rest passes
  pub any_yes : (p : B → Bool) (f : A → B) (xs : List A) (i : ℕ) (x : A) → i < length xs → x ≡ get_or xs i x → p (f x) ≡ true → list_any p (map f (drop i xs)) ≡ true
  any_yes p f xs i x within is passes =
      ap (λ ys. list_any p (map f ys)) (drop_more xs i x within ∙ ap (λ y. y ∷ drop (i + 1) xs) (sym is)) ∙ rw passes refl

  pub any_no : (p : B → Bool) (f : A → B) (xs : List A) (i : ℕ) (x : A) → i < length xs → x ≡ get_or xs i x → p (f x) ≡ false → list_any p (map f (drop i xs)) ≡ list_any p (map f (drop (i + 1) xs))
  any_no p f xs i x within is misses =
      ap (λ ys. list_any p (map f ys)) (drop_more xs i x within ∙ ap (λ y. y ∷ drop (i + 1) xs) (sym is)) ∙ rw misses refl

  pub any_end : (p : B → Bool) (f : A → B) (xs : List A) (i : ℕ) → length xs ≤ i → list_any p (map f (drop i xs)) ≡ false
  any_end p f xs i all = ap (λ ys. list_any p (map f ys)) (drop_all i xs all)

pub find_none : {B : Type 0} (p : B → Bool) (xs : List B) → list_any p xs ≡ false → find p xs ≡ None
find_none p [] none = refl
find_none p (x ∷ xs) none =
    let parts = or_parts (p x) (list_any p xs) none in
    rw parts.0 (find_none p xs parts.1)

pub ruleset find_steps = (find_yes, find_no, find_end)

pub ruleset any_steps = (any_yes, any_no, any_end)

pub keep_all : {B : Type 0} (keep : B → Bool) (orig : List B) (n : ℕ) → n ≡ length orig → orig ≡ take n orig ++ filter keep (drop n orig)
keep_all keep orig n is = sym (ap (λ ys. ys ++ filter keep (drop n orig)) (take_all n orig (omega arith)) ∙ ap (λ ys. orig ++ filter keep ys) (drop_all n orig (omega arith)) ∙ append-nil orig)

pub ruleset keep_steps = (keep_all, keep_pass, keep_gone)

pub ruleset copy_steps = (take_more, take_all)

-- a ring with room for one more keeps all that it has
pub kept_push : {A : Type 0} (xs ys : List A) (i capacity : ℕ) (x : A) → i < length ys → length xs + length ys ≤ capacity → x ≡ get_or ys i x
    → drop (length ((xs ++ take i ys) ++ x ∷ []) - capacity) ((xs ++ take i ys) ++ x ∷ []) ≡ xs ++ take (i + 1) ys
kept_push xs ys i capacity x within room is =
    let one = length-append (xs ++ take i ys) (x ∷ []) in
    let two = length-append xs (take i ys) in
    let three = length-take-le i ys (omega arith) in
    let none : length ((xs ++ take i ys) ++ x ∷ []) - capacity ≡ 0 = omega arith in
    ap (λ n. drop n ((xs ++ take i ys) ++ x ∷ [])) none
    ∙ append_assoc xs (take i ys) (x ∷ [])
    ∙ ap (λ zs. xs ++ zs) (sym (take_more ys i x within ∙ ap (λ y. take i ys ++ y ∷ []) (sym is)))

pub ruleset push_steps = (kept_push, take_all)
