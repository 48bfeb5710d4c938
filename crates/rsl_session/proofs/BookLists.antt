-- Lists of links under a view: what is found, kept, changed or taken out of the links is so of their views.
use Rattle.std.proofs.Common.{◌≡◌, ℕ, suc, ◌<◌, List, [], ◌∷◌, ◌++◌, map, take, Bool, true, false, cond, ◌&&◌, ◌||◌, not, refl, ap, sym, ◌∙◌, subst, arith, eqb, take-take}
use Rattle.std.specs.Prelude.{Option, Some, None, ⊤, filter, find}
use Rattle.std.specs.List.{list_all, AllByRecursion, cons_option}
use Rattle.std.specs.Option.{option_map, option_or}
use Rattle.std.proofs.lemmas.Bool.{and_parts, and_from, eq-eqb, ne_eqb}
use Rattle.rsl_session.specs.BookLinks.{change_first, without_first}

-- a filter and a search by a test that says of each view what another says of the link
pub filter_view : {A B : Type 0} (h : A → B) (t : A → Bool) (p : B → Bool) (q : A → Bool)
    → ((x : A) → t x ≡ true → p (h x) ≡ q x)
    → (xs : List A) → list_all t xs ≡ true → filter p (map h xs) ≡ map h (filter q xs)
filter_view h t p q is [] all = refl
filter_view h t p q is (x ∷ xs) all =
    let parts = and_parts (t x) (list_all t xs) all in
    rw (is x parts.0, filter_view h t p q is xs parts.1) (by_cases h x (filter q xs) (q x)) where
      by_cases : {A B : Type 0} (h : A → B) (x : A) (xs : List A) (kept : Bool) → cond kept (h x ∷ map h xs)
          (map h xs) ≡ map h (cond kept (x ∷ xs) xs)
      by_cases h x xs true = refl
      by_cases h x xs false = refl

pub find_view : {A B : Type 0} (h : A → B) (t : A → Bool) (p : B → Bool) (q : A → Bool)
    → ((x : A) → t x ≡ true → p (h x) ≡ q x)
    → (xs : List A) → list_all t xs ≡ true → find p (map h xs) ≡ option_map h (find q xs)
find_view h t p q is [] all = refl
find_view h t p q is (x ∷ xs) all =
    let parts = and_parts (t x) (list_all t xs) all in
    rw (is x parts.0, find_view h t p q is xs parts.1) (by_cases h x (find q xs) (q x)) where
      by_cases : {A B : Type 0} (h : A → B) (x : A) (found : Option A) (here : Bool) → cond here (Some (h x))
          (option_map h found) ≡ option_map h (cond here (Some x) found)
      by_cases h x found true = refl
      by_cases h x found false = refl

pub list_all_view : {A B : Type 0} (h : A → B) (p : B → Bool) (q : A → Bool) → ((x : A) → p (h x) ≡ q x)
    → (xs : List A) → list_all p (map h xs) ≡ list_all q xs
list_all_view h p q is [] = refl
list_all_view h p q is (x ∷ xs) = rw (is x, list_all_view h p q is xs) refl

-- two views of links that look the same in each
pub map_same : {A B : Type 0} (t : A → Bool) (g h : A → B) → ((x : A) → t x ≡ true → g x ≡ h x)
    → (xs : List A) → list_all t xs ≡ true → map g xs ≡ map h xs
map_same t g h same [] all = refl
map_same t g h same (x ∷ xs) all =
    let parts = and_parts (t x) (list_all t xs) all in
    rw (same x parts.0, map_same t g h same xs parts.1) refl

pub map_fixed : {A : Type 0} (f : A → A) → ((x : A) → f x ≡ x) → (xs : List A) → map f xs ≡ xs
map_fixed f fixed [] = refl
map_fixed f fixed (x ∷ xs) = rw (fixed x, map_fixed f fixed xs) refl

pub map_of_map : {A B C : Type 0} (f : B → C) (g : A → B) (xs : List A)
    → map f (map g xs) ≡ map (λ x. f (g x)) xs
map_of_map f g [] = refl
map_of_map f g (x ∷ xs) = ap (λ ys. f (g x) ∷ ys) (map_of_map f g xs)

pub filter_all : {A : Type 0} (p : A → Bool) → ((x : A) → p x ≡ true) → (xs : List A) → filter p xs ≡ xs
filter_all p all [] = refl
filter_all p all (x ∷ xs) = rw (all x, filter_all p all xs) refl

pub filter_same : {A : Type 0} (p q : A → Bool) → ((x : A) → p x ≡ q x) → (xs : List A)
    → filter p xs ≡ filter q xs
filter_same p q same [] = refl
filter_same p q same (x ∷ xs) = rw (same x, filter_same p q same xs) refl

-- a search of what passes a test is a search by both tests
pub find_filter : {A : Type 0} (p q : A → Bool) (xs : List A)
    → find p (filter q xs) ≡ find (λ x. q x && p x) xs
find_filter p q [] = refl
find_filter p q (x ∷ xs) = by_cases p x (filter q xs) (find (λ y. q y && p y) xs) (q x) (find_filter p q xs) where
  by_cases : {A : Type 0} (p : A → Bool) (x : A) (xs : List A) (found : Option A) (kept : Bool)
      → find p xs ≡ found
      → find p (cond kept (x ∷ xs) xs) ≡ cond (kept && p x) (Some x) found
  by_cases p x xs found true rest = rw rest refl
  by_cases p x xs found false rest = rest

-- what is found passes the test, and passes what all pass
pub found_is : {A : Type 0} (p : A → Bool) (xs : List A) (y : A) → find p xs ≡ Some y → p y ≡ true
found_is p [] y found = cc
found_is p (x ∷ xs) y found = by_cases p x y xs (p x) refl found (found_is p xs y) where
  by_cases : {A : Type 0} (p : A → Bool) (x y : A) (xs : List A) (here : Bool) → p x ≡ here
      → cond here (Some x) (find p xs) ≡ Some y → (find p xs ≡ Some y → p y ≡ true) → p y ≡ true
  by_cases p x y xs true is found rest = let same : x ≡ y = cc in subst (λ z. p z ≡ true) same is
  by_cases p x y xs false is found rest = rest found

pub found_in : {A : Type 0} (p t : A → Bool) (xs : List A) (y : A) → list_all t xs ≡ true → find p xs ≡ Some y
    → t y ≡ true
found_in p t [] y all found = cc
found_in p t (x ∷ xs) y all found = by_cases p t x y xs (p x) (and_parts (t x) (list_all t xs) all) found (found_in p t xs y) where
  by_cases : {A : Type 0} (p t : A → Bool) (x y : A) (xs : List A) (here : Bool)
      → (t x ≡ true) × (list_all t xs ≡ true) → cond here (Some x) (find p xs) ≡ Some y
      → (list_all t xs ≡ true → find p xs ≡ Some y → t y ≡ true) → t y ≡ true
  by_cases p t x y xs true all found rest = let same : x ≡ y = cc in subst (λ z. t z ≡ true) same all.0
  by_cases p t x y xs false all found rest = rest all.1 found

-- what all of a list pass
pub all_weaker : {A : Type 0} (p q : A → Bool) → ((x : A) → p x ≡ true → q x ≡ true) → (xs : List A)
    → list_all p xs ≡ true → list_all q xs ≡ true
all_weaker p q weaker [] all = refl
all_weaker p q weaker (x ∷ xs) all =
    let parts = and_parts (p x) (list_all p xs) all in
    and_from _ _ (weaker x parts.0) (all_weaker p q weaker xs parts.1)

pub all_push : {A : Type 0} (q : A → Bool) (xs : List A) (x : A) → list_all q xs ≡ true → q x ≡ true
    → list_all q (xs ++ x ∷ []) ≡ true
all_push q [] x all here = and_from _ _ here refl
all_push q (y ∷ xs) x all here =
    let parts = and_parts (q y) (list_all q xs) all in
    and_from _ _ parts.0 (all_push q xs x parts.1 here)

pub all_filter : {A : Type 0} (p q : A → Bool) (xs : List A) → list_all q xs ≡ true
    → list_all q (filter p xs) ≡ true
all_filter p q [] all = refl
all_filter p q (x ∷ xs) all = by_cases p q x xs (p x) (and_parts (q x) (list_all q xs) all) (all_filter p q xs) where
  by_cases : {A : Type 0} (p q : A → Bool) (x : A) (xs : List A) (here : Bool)
      → (q x ≡ true) × (list_all q xs ≡ true)
      → (list_all q xs ≡ true → list_all q (filter p xs) ≡ true)
      → list_all q (cond here (x ∷ filter p xs) (filter p xs)) ≡ true
  by_cases p q x xs true all rest = and_from _ _ all.0 (rest all.1)
  by_cases p q x xs false all rest = rest all.1

-- numbers in rising order
unfoldable pub IsRising : List ℕ → Type 0
IsRising [] = ⊤
IsRising (x ∷ xs) = AllByRecursion (λ y. x < y) xs × IsRising xs

above_push : (x : ℕ) (xs : List ℕ) (y : ℕ) → AllByRecursion (λ z. x < z) xs → x < y
    → AllByRecursion (λ z. x < z) (xs ++ y ∷ [])
above_push x [] y all here = (here, tt)
above_push x (z ∷ xs) y all here = (all.0, above_push x xs y all.1 here)

pub rising_push : (xs : List ℕ) (n : ℕ) (t : ℕ → Bool) → ((x : ℕ) → t x ≡ true → x < n) → list_all t xs ≡ true
    → IsRising xs → IsRising (xs ++ n ∷ [])
unfolding IsRising
rising_push [] n t within all rising = (tt, tt)
rising_push (x ∷ xs) n t within all rising =
    let parts = and_parts (t x) (list_all t xs) all in
    (above_push x xs n rising.0 (within x parts.0), rising_push xs n t within parts.1 rising.1)

above_filter : (x : ℕ) (p : ℕ → Bool) (xs : List ℕ) → AllByRecursion (λ z. x < z) xs
    → AllByRecursion (λ z. x < z) (filter p xs)
above_filter x p [] all = tt
above_filter x p (y ∷ xs) all = by_cases x p y xs (p y) all.0 (above_filter x p xs all.1) where
  by_cases : (x : ℕ) (p : ℕ → Bool) (y : ℕ) (xs : List ℕ) (kept : Bool) → x < y → AllByRecursion (λ z. x < z)
      (filter p xs) → AllByRecursion (λ z. x < z) (cond kept (y ∷ filter p xs) (filter p xs))
  by_cases x p y xs true here rest = (here, rest)
  by_cases x p y xs false here rest = rest

pub rising_filter : (p : ℕ → Bool) (xs : List ℕ) → IsRising xs → IsRising (filter p xs)
unfolding IsRising
rising_filter p [] rising = tt
rising_filter p (x ∷ xs) rising = by_cases p x xs (p x) rising.0 (rising_filter p xs rising.1) where
  by_cases : (p : ℕ → Bool) (x : ℕ) (xs : List ℕ) (kept : Bool) → AllByRecursion (λ z. x < z) xs
      → IsRising (filter p xs) → IsRising (cond kept (x ∷ filter p xs) (filter p xs))
  by_cases p x xs true above rest = (above_filter x p xs above, rest)
  by_cases p x xs false above rest = rest

-- of the rest of a rising list none is the first
others_same : {B : Type 0} (t : ℕ → Bool) (g h : ℕ → B) (y : ℕ)
    → ((x : ℕ) → t x ≡ true → (x ≡ y → ⊥) → g x ≡ h x) → (xs : List ℕ) → AllByRecursion (λ z. y < z) xs
    → list_all t xs ≡ true → map g xs ≡ map h xs
others_same t g h y same [] above all = refl
others_same t g h y same (x ∷ xs) above all =
    let parts = and_parts (t x) (list_all t xs) all in
    rw (same x parts.0 (λ e. omega (arith, above.0)), others_same t g h y same xs above.1 parts.1) refl

others_kept : (y : ℕ) (xs : List ℕ) → AllByRecursion (λ z. y < z) xs → filter (λ x. not (eqb x y)) xs ≡ xs
others_kept y [] above = refl
others_kept y (x ∷ xs) above = rw (ne_eqb x y (λ e. omega (arith, above.0)), others_kept y xs above.1) refl

-- the first link of a rising list that passes is changed, by its name, exactly as the first view that passes is
pub changed_by_name : {B : Type 0} (t : ℕ → Bool) (g h : ℕ → B) (q : ℕ → Bool) (p : B → Bool) (f : B → B)
    (y : ℕ)
    → ((x : ℕ) → t x ≡ true → p (h x) ≡ q x) → ((x : ℕ) → t x ≡ true → (x ≡ y → ⊥) → g x ≡ h x)
    → g y ≡ f (h y)
    → (xs : List ℕ) → IsRising xs → list_all t xs ≡ true → find q xs ≡ Some y
    → map g xs ≡ change_first p f (map h xs)
unfolding IsRising change_first
changed_by_name t g h q p f y is same changed [] rising all found = cc
changed_by_name t g h q p f y is same changed (x ∷ xs) rising all found =
    let parts = and_parts (t x) (list_all t xs) all in
    rw (is x parts.0)
    (by_cases t g h q p f y same changed x xs (q x) refl (found_is q (x ∷ xs) y found) rising.0 parts.0 parts.1 found
    (changed_by_name t g h q p f y is same changed xs rising.1 parts.1)) where
      by_cases : {B : Type 0} (t : ℕ → Bool) (g h : ℕ → B) (q : ℕ → Bool) (p : B → Bool) (f : B → B) (y : ℕ)
          → ((x : ℕ) → t x ≡ true → (x ≡ y → ⊥) → g x ≡ h x) → g y ≡ f (h y) → (x : ℕ) (xs : List ℕ)
          (here : Bool) → q x ≡ here → q y ≡ true
          → AllByRecursion (λ z. x < z) xs → t x ≡ true → list_all t xs ≡ true → cond here (Some x)
          (find q xs) ≡ Some y
          → (find q xs ≡ Some y → map g xs ≡ change_first p f (map h xs))
          → g x ∷ map g xs ≡ cond here (f (h x) ∷ map h xs) (h x ∷ change_first p f (map h xs))
      by_cases t g h q p f y same changed x xs true is passes above here all found rest =
          let at : x ≡ y = cc in
          let first : g x ≡ f (h x) = subst (λ z. g z ≡ f (h z)) (sym at) changed in
          let later : map g xs ≡ map h xs = others_same t g h y same xs (subst (λ n. AllByRecursion (λ z. n < z) xs) at above) all in
          rw (first, later) refl
      by_cases t g h q p f y same changed x xs false is passes above here all found rest =
          let first : g x ≡ h x = same x here (λ at. let yes : q x ≡ true = subst (λ z. q z ≡ true) (sym at) passes in let wrong : true ≡ false = sym yes ∙ is in cc) in
          rw (first, rest found) refl

-- and is taken out so
pub without_by_name : {B : Type 0} (t : ℕ → Bool) (h : ℕ → B) (q : ℕ → Bool) (p : B → Bool) (y : ℕ)
    → ((x : ℕ) → t x ≡ true → p (h x) ≡ q x)
    → (xs : List ℕ) → IsRising xs → list_all t xs ≡ true → find q xs ≡ Some y
    → map h (filter (λ x. not (eqb x y)) xs) ≡ without_first p (map h xs)
unfolding IsRising without_first
without_by_name t h q p y is [] rising all found = cc
without_by_name t h q p y is (x ∷ xs) rising all found =
    let parts = and_parts (t x) (list_all t xs) all in
    rw (is x parts.0)
    (by_cases h q p y x xs (q x) refl (found_is q (x ∷ xs) y found) rising.0 found (without_by_name t h q p y is xs rising.1 parts.1)) where
      by_cases : {B : Type 0} (h : ℕ → B) (q : ℕ → Bool) (p : B → Bool) (y : ℕ) (x : ℕ) (xs : List ℕ)
          (here : Bool) → q x ≡ here → q y ≡ true
          → AllByRecursion (λ z. x < z) xs → cond here (Some x) (find q xs) ≡ Some y
          → (find q xs ≡ Some y → map h (filter (λ z. not (eqb z y)) xs) ≡ without_first p (map h xs))
          → map h (cond (not (eqb x y)) (x ∷ filter (λ z. not (eqb z y)) xs) (filter (λ z. not (eqb z y)) xs)) ≡ cond here (map h xs)
          (h x ∷ without_first p (map h xs))
      by_cases h q p y x xs true is passes above found rest =
          let at : x ≡ y = cc in
          rw (eq-eqb x y at, others_kept y xs (subst (λ n. AllByRecursion (λ z. n < z) xs) at above)) refl
      by_cases h q p y x xs false is passes above found rest =
          let other : eqb x y ≡ false = ne_eqb x y (λ at. let yes : q x ≡ true = subst (λ z. q z ≡ true) (sym at) passes in let wrong : true ≡ false = sym yes ∙ is in cc) in
          rw (other, rest found) refl

-- the first so many of a list with one more in front
pub take_push : {A : Type 0} (n : ℕ) (x : A) (xs : List A) → take (suc n) (x ∷ take (suc n) xs) ≡ take (suc n)
    (x ∷ xs)
take_push n x xs = ap (λ ys. x ∷ ys) (take-take n (suc n) xs (omega arith))

pub map_cons_option : {A B : Type 0} (f : A → B) (o : Option A) (xs : List A) → cons_option (option_map f o)
    (map f xs) ≡ map f (cons_option o xs)
map_cons_option f None xs = refl
map_cons_option f (Some x) xs = refl

pub or_none : {A : Type 0} (o : Option A) → option_or o None ≡ o
or_none None = refl
or_none (Some x) = refl

pub or_false : (b : Bool) → (b || false) ≡ b
or_false true = refl
or_false false = refl
