-- Two books holder the same where all that they holder is the same one by one.
use Rattle.std.proofs.Common.{◌≡◌, ℕ, ◌+◌, ◌<◌, ◌≤◌, List, ◌∷◌, [], ◌++◌, take, get_or, length, map, Bool, true, false, refl, ap, sym, ◌∙◌, arith}
use Rattle.std.specs.Prelude.{◌↔◌}
use Rattle.std.proofs.lemmas.Bool.{false≢true}
use Rattle.std.proofs.lemmas.List.{take_more, take_all, length-map, get_or-map}

module _ {A B C : Type 0} where
  pub same_none : (f : A → C) (g : B → C) (xs : List A) (ys : List B) → take 0 (map f xs) ≡ take 0 (map g ys)
  same_none f g xs ys = refl

  -- one more that is the same
  pub same_more : (f : A → C) (g : B → C) (xs : List A) (ys : List B) (i : ℕ) (x : A) (y : B) → i < length xs → i < length ys
      → f (get_or xs i x) ≡ g (get_or ys i y) → take i (map f xs) ≡ take i (map g ys) → take (i + 1) (map f xs) ≡ take (i + 1) (map g ys)
  same_more f g xs ys i x y within other_within same so_far =
      let here : get_or (map f xs) i (f x) ≡ get_or (map g ys) i (g y) = get_or-map f xs i x (f x) within ∙ same ∙ sym (get_or-map g ys i y (g y) other_within) in
      take_more (map f xs) i (f x) (rw (length-map xs f) within)
      ∙ ap (λ z. take i (map f xs) ++ z ∷ []) here
      ∙ ap (λ zs. zs ++ get_or (map g ys) i (g y) ∷ []) so_far
      ∙ sym (take_more (map g ys) i (g y) (rw (length-map ys g) other_within))

  pub same_all : (f : A → C) (g : B → C) (xs : List A) (ys : List B) (i : ℕ) → length xs ≤ i → length xs ≡ length ys
      → take i (map f xs) ≡ take i (map g ys) → map f xs ≡ map g ys
  same_all f g xs ys i all long so_far =
      let one : length (map f xs) ≤ i = rw (length-map xs f) all in
      let other : length (map g ys) ≤ i = rw (length-map ys g) (omega (arith, all, long)) in
      sym (take_all i (map f xs) one) ∙ so_far ∙ take_all i (map g ys) other

  pub same_not : (f : A → C) (g : B → C) (xs : List A) (ys : List B) (i : ℕ) (x : A) (y : B) → i < length xs → i < length ys
      → (f (get_or xs i x) ≡ g (get_or ys i y) → false ≡ true) → map f xs ≡ map g ys → false ≡ true
  same_not f g xs ys i x y within other_within apart same =
      let one = get_or-map f xs i x (f x) within in
      let other : get_or (map g ys) i (f x) ≡ g (get_or ys i y) = get_or-map g ys i y (f x) other_within in
      apart (sym one ∙ ap (λ zs. get_or zs i (f x)) same ∙ other)

  pub same_length : (f : A → C) (g : B → C) (xs : List A) (ys : List B) → map f xs ≡ map g ys → length xs ≡ length ys
  same_length f g xs ys same = sym (length-map xs f) ∙ ap length same ∙ length-map ys g

  -- the same of two rings, whose elements are compared index by index
  pub ring_more : (f : A → C) (g : B → C) (xs : List A) (ys : List B) (i : ℕ) (r : Bool) → i < length xs → i < length ys
      → ((x : A) (y : B) → (r ≡ true) ↔ (f (get_or xs i x) ≡ g (get_or ys i y))) → r ≡ true
      → take i (map f xs) ≡ take i (map g ys) → take (i + 1) (map f xs) ≡ take (i + 1) (map g ys)
  ring_more f g [] ys i r within other_within is same so_far = absurd (omega arith)
  ring_more f g (x ∷ xs) [] i r within other_within is same so_far = absurd (omega arith)
  ring_more f g (x ∷ xs) (y ∷ ys) i r within other_within is same so_far =
      same_more f g (x ∷ xs) (y ∷ ys) i x y within other_within ((is x y).0 same) so_far

  pub ring_not : (f : A → C) (g : B → C) (xs : List A) (ys : List B) (i : ℕ) (r : Bool) → i < length xs → i < length ys
      → ((x : A) (y : B) → (r ≡ true) ↔ (f (get_or xs i x) ≡ g (get_or ys i y))) → r ≡ false
      → (false ≡ true) ↔ (map f xs ≡ map g ys)
  ring_not f g [] ys i r within other_within is apart = absurd (omega arith)
  ring_not f g (x ∷ xs) [] i r within other_within is apart = absurd (omega arith)
  ring_not f g (x ∷ xs) (y ∷ ys) i r within other_within is apart =
      (λ e. absurd (false≢true e), same_not f g (x ∷ xs) (y ∷ ys) i x y within other_within (λ e. sym apart ∙ (is x y).1 e))

pub ruleset same_steps = (same_none, same_more, same_all, same_not, same_length)
