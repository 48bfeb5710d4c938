-- One link more adds no place or one, in whatever order the links stand; so links that end add none, and
-- a link that joins a bundle adds none.
use Rattle.std.proofs.Common.{◌≡◌, ℕ, zero, suc, ◌+◌, ◌-◌, ◌*◌, ◌<◌, ◌≤◌, List, [], ◌∷◌, ◌++◌, length, Bool, true, false, cond, ◌||◌, refl, ap, sym, ◌∙◌, subst, ◌⊎◌, inl, inr, arith, append_assoc, map}
use Rattle.std.specs.Prelude.{Option, Some, None, count_by, sum_by, filter, is_none}
use Rattle.std.specs.Int.{div_ceil}
use Rattle.std.specs.List.{list_any}
use Rattle.std.proofs.lemmas.Bool.{cases_lt, or_parts}
use Rattle.std.proofs.lemmas.Grind.{div_ceil_times}
use Rattle.std.proofs.lemmas.List.Sums.{sum_by-cons, sum_by-append}
use Rattle.std.proofs.Math.Nat.{mul-le-mul_right}
use Rattle.rsl_session.specs.declared.bundle.Bundle.{Bundle}
use Rattle.rsl_session.specs.Same.{same_bundle}
use Rattle.rsl_session.specs.Places.{places_of, each_bundle, is_bundle}
use Rattle.rsl_session.proofs.Sameness.{bundle_cases, same_bundle-refl}

-- rounded up, one link more takes as many or one more
ceil_step : (m ports q r : ℕ) → 0 < ports → m ≤ q * ports → q * ports < m + ports → suc m ≤ r * ports → r * ports < suc m + ports → (q ≤ r) × (r ≤ suc q)
ceil_step m ports q r some a b c d = (
  elim (cases_lt r q) [
    | inl less ↦ absurd (let h : suc r * ports ≤ q * ports = mul-le-mul_right ports less in omega arith)
    | inr fine ↦ fine
  ],
  elim (cases_lt (suc q) r) [
    | inl more ↦ absurd (let h : suc (suc q) * ports ≤ r * ports = mul-le-mul_right ports more in omega arith)
    | inr fine ↦ fine
  ],
)

-- the places of a bundle of so many links
share : ℕ → ℕ → ℕ
share ports m = div_ceil m ports

share_more : (ports m : ℕ) → 0 < ports → (share ports m ≤ share ports (suc m)) × (share ports (suc m) ≤ suc (share ports m))
unfolding share
share_more ports m some =
    let old = div_ceil_times m ports some in
    let new = div_ceil_times (suc m) ports some in
    ceil_step m ports (div_ceil m ports) (div_ceil (suc m) ports) some old.0 old.1 new.0 new.1

share_none : (ports : ℕ) → 0 < ports → share ports 0 ≡ 0
unfolding share
share_none ports some =
    let old = div_ceil_times 0 ports some in
    elim (cases_lt 0 (div_ceil 0 ports)) [
      | inl more ↦ absurd (let h : 1 * ports ≤ div_ceil 0 ports * ports = mul-le-mul_right ports more in omega arith)
      | inr fine ↦ omega arith
    ]

-- how many of some links are in a bundle
members : Bundle → List (Option Bundle) → ℕ
members bundle xs = count_by (is_bundle bundle) xs

members-None : (bundle : Bundle) (xs : List (Option Bundle)) → members bundle (None ∷ xs) ≡ members bundle xs
unfolding members
members-None bundle xs = omega (arith, sum_by-cons (λ x. cond (is_bundle bundle x) 1 0) None xs)

members-Some : (bundle : Bundle) (other : Bundle) (xs : List (Option Bundle)) → members bundle (Some other ∷ xs) ≡ cond (same_bundle other bundle) 1 0 + members bundle xs
unfolding members
members-Some bundle other xs = sum_by-cons (λ x. cond (is_bundle bundle x) 1 0) (Some other) xs

members-nil : (bundle : Bundle) → members bundle [] ≡ 0
unfolding members
members-nil bundle = refl

members-none : (bundle : Bundle) (xs : List (Option Bundle)) → list_any (is_bundle bundle) xs ≡ false → members bundle xs ≡ 0
members-none bundle [] h = members-nil bundle
members-none bundle (None ∷ xs) h = members-None bundle xs ∙ members-none bundle xs h
members-none bundle (Some other ∷ xs) h =
    let parts = or_parts (same_bundle other bundle) (list_any (is_bundle bundle) xs) h in
    let rest = members-none bundle xs parts.1 in
    let first : members bundle (Some other ∷ xs) ≡ 0 + members bundle xs = rw parts.0 at (members-Some bundle other xs) in
    omega arith

-- the places that one link more adds
pub adds : ℕ → Option Bundle → List (Option Bundle) → ℕ
adds ports None xs = 1
adds ports (Some bundle) xs = share ports (suc (members bundle xs)) - share ports (members bundle xs)

pub adds-le : (ports : ℕ) (x : Option Bundle) (xs : List (Option Bundle)) → 0 < ports → adds ports x xs ≤ 1
unfolding adds
adds-le ports None xs some = omega arith
adds-le ports (Some bundle) xs some = omega (arith, share_more ports (members bundle xs) some)

-- the places that some bundles take
shares : ℕ → List (Option Bundle) → List Bundle → ℕ
shares ports xs bundles = sum_by (λ bundle. share ports (members bundle xs)) bundles

shares-nil : (ports : ℕ) (xs : List (Option Bundle)) → shares ports xs [] ≡ 0
unfolding shares
shares-nil ports xs = refl

shares-cons : (ports : ℕ) (xs : List (Option Bundle)) (bundle : Bundle) (bundles : List Bundle) → shares ports xs (bundle ∷ bundles) ≡ share ports (members bundle xs) + shares ports xs bundles
unfolding shares
shares-cons ports xs bundle bundles = sum_by-cons (λ one. share ports (members one xs)) bundle bundles

shares-None : (ports : ℕ) (xs : List (Option Bundle)) (bundles : List Bundle) → shares ports (None ∷ xs) bundles ≡ shares ports xs bundles
shares-None ports xs [] = shares-nil ports (None ∷ xs) ∙ sym (shares-nil ports xs)
shares-None ports xs (bundle ∷ bundles) =
    shares-cons ports (None ∷ xs) bundle bundles
    ∙ ap (λ n. share ports n + shares ports (None ∷ xs) bundles) (members-None bundle xs)
    ∙ ap (λ n. share ports (members bundle xs) + n) (shares-None ports xs bundles)
    ∙ sym (shares-cons ports xs bundle bundles)

-- how often a bundle stands in a list
times : Bundle → List Bundle → ℕ
times bundle bundles = count_by (same_bundle bundle) bundles

times-cons : (bundle other : Bundle) (bundles : List Bundle) → times bundle (other ∷ bundles) ≡ cond (same_bundle bundle other) 1 0 + times bundle bundles
unfolding times
times-cons bundle other bundles = sum_by-cons (λ x. cond (same_bundle bundle x) 1 0) other bundles

times-nil : (bundle : Bundle) → times bundle [] ≡ 0
unfolding times
times-nil bundle = refl

-- what one link more adds to its own bundle
share-Some : (ports : ℕ) (bundle : Bundle) (xs : List (Option Bundle)) → 0 < ports → share ports (members bundle (Some bundle ∷ xs)) ≡ share ports (members bundle xs) + adds ports (Some bundle) xs
unfolding adds
share-Some ports bundle xs some =
    let more = members-Some bundle bundle xs in
    let one : members bundle (Some bundle ∷ xs) ≡ 1 + members bundle xs = rw (same_bundle-refl bundle) at more in
    let count : members bundle (Some bundle ∷ xs) ≡ suc (members bundle xs) = omega arith in
    let grown = share_more ports (members bundle xs) some in
    ap (share ports) count ∙ (omega arith)

one_more : (a b c d t s n : ℕ) → a ≡ b + n → c ≡ d + t * n → a + c ≡ b + d + (1 + t) * n
one_more a b c d t s n e f = omega arith

-- one link more of a bundle adds to that bundle alone
shares-Some : (ports : ℕ) (bundle : Bundle) (xs : List (Option Bundle)) (bundles : List Bundle) → 0 < ports → shares ports (Some bundle ∷ xs) bundles ≡ shares ports xs bundles + times bundle bundles * adds ports (Some bundle) xs
shares-Some ports bundle xs [] some =
    rw (times-nil bundle) (rw (shares-nil ports xs) (shares-nil ports (Some bundle ∷ xs) ∙ omega arith))
shares-Some ports bundle xs (other ∷ bundles) some =
    let rest = shares-Some ports bundle xs bundles some in
    let new = shares-cons ports (Some bundle ∷ xs) other bundles in
    let old = shares-cons ports xs other bundles in
    let count = times-cons bundle other bundles in
    let counted = members-Some other bundle xs in
    elim (bundle_cases bundle other) [
      | inl same ↦
          let P : Bundle → Type 0 = λ o. share ports (members o (Some bundle ∷ xs)) ≡ share ports (members o xs) + adds ports (Some bundle) xs in
          let first : share ports (members other (Some bundle ∷ xs)) ≡ share ports (members other xs) + adds ports (Some bundle) xs =
          subst P same (share-Some ports bundle xs some) in
          let Q : Bundle → Type 0 = λ o. same_bundle bundle o ≡ true in
          let yes : same_bundle bundle other ≡ true = subst Q same (same_bundle-refl bundle) in
          let more : times bundle (other ∷ bundles) ≡ 1 + times bundle bundles = rw yes at count in
          rw (new, old, more)
          (one_more (share ports (members other (Some bundle ∷ xs))) (share ports (members other xs))
          (shares ports (Some bundle ∷ xs) bundles) (shares ports xs bundles) (times bundle bundles) 0
          (adds ports (Some bundle) xs) first rest)
      | inr differ ↦
          let less : members other (Some bundle ∷ xs) ≡ 0 + members other xs = rw differ.0 at counted in
          let same : members other (Some bundle ∷ xs) ≡ members other xs = omega arith in
          let first : share ports (members other (Some bundle ∷ xs)) ≡ share ports (members other xs) = ap (share ports) same in
          let more : times bundle (other ∷ bundles) ≡ 0 + times bundle bundles = rw differ.0 at count in
          rw (new, old, more) (omega (arith, rest))
    ]

once_more : (bundle other : Bundle) (xs : List (Option Bundle)) (seen : Bool) → list_any (is_bundle other) xs ≡ seen
    → times bundle (each_bundle xs) ≡ cond (list_any (is_bundle bundle) xs) 1 0
    → times bundle (cond seen (each_bundle xs) (other ∷ each_bundle xs)) ≡ cond (same_bundle other bundle || list_any (is_bundle bundle) xs) 1 0
once_more bundle other xs true is rest =
    elim (bundle_cases bundle other) [
      | inl same ↦
          let P : Bundle → Type 0 = λ o. times o (each_bundle xs) ≡ cond (list_any (is_bundle o) xs) 1 0 in
          let Q : Bundle → Type 0 = λ o. times o (each_bundle xs) ≡ cond (same_bundle other o || list_any (is_bundle o) xs) 1 0 in
          subst Q (sym same) (rw (same_bundle-refl other) (rw is at (subst P same rest)))
      | inr differ ↦ rw differ.1 rest
    ]
once_more bundle other xs false is rest =
    let count = times-cons bundle other (each_bundle xs) in
    elim (bundle_cases bundle other) [
      | inl same ↦
          let P : Bundle → Type 0 = λ o. times o (each_bundle xs) ≡ cond (list_any (is_bundle o) xs) 1 0 in
          let Q : Bundle → Type 0 = λ o. times o (other ∷ each_bundle xs) ≡ cond (same_bundle other o || list_any (is_bundle o) xs) 1 0 in
          let none : times other (each_bundle xs) ≡ 0 = rw is at (subst P same rest) in
          let one : times other (other ∷ each_bundle xs) ≡ 1 + times other (each_bundle xs) =
          rw (same_bundle-refl other) at (times-cons other other (each_bundle xs)) in
          subst Q (sym same) (rw (same_bundle-refl other) (omega arith))
      | inr differ ↦
          let more : times bundle (other ∷ each_bundle xs) ≡ 0 + times bundle (each_bundle xs) = rw differ.0 at count in
          rw differ.1 (more ∙ (omega (arith, rest)))
    ]

-- each bundle stands once in the list of bundles
once : (bundle : Bundle) (xs : List (Option Bundle)) → times bundle (each_bundle xs) ≡ cond (list_any (is_bundle bundle) xs) 1 0
unfolding each_bundle
once bundle [] = times-nil bundle
once bundle (None ∷ xs) = once bundle xs
once bundle (Some other ∷ xs) = once_more bundle other xs (list_any (is_bundle other) xs) refl (once bundle xs)

-- the links without a bundle
alone : List (Option Bundle) → ℕ
alone xs = count_by is_none xs

alone-None : (xs : List (Option Bundle)) → alone (None ∷ xs) ≡ 1 + alone xs
unfolding alone
alone-None xs = sum_by-cons (λ x. cond (is_none x) 1 0) None xs

alone-Some : (bundle : Bundle) (xs : List (Option Bundle)) → alone (Some bundle ∷ xs) ≡ alone xs
unfolding alone
alone-Some bundle xs = omega (arith, sum_by-cons (λ x. cond (is_none x) 1 0) (Some bundle) xs)

places_of-parts : (ports : ℕ) (xs : List (Option Bundle)) → places_of ports xs ≡ alone xs + shares ports xs (each_bundle xs)
unfolding places_of alone shares share members
places_of-parts ports xs = refl

each_bundle-None : (xs : List (Option Bundle)) → each_bundle (None ∷ xs) ≡ each_bundle xs
unfolding each_bundle
each_bundle-None xs = refl

each_bundle-Some : (bundle : Bundle) (xs : List (Option Bundle)) → each_bundle (Some bundle ∷ xs) ≡ cond (list_any (is_bundle bundle) xs) (each_bundle xs) (bundle ∷ each_bundle xs)
unfolding each_bundle
each_bundle-Some bundle xs = refl

shares_of_new : (ports : ℕ) (bundle : Bundle) (xs : List (Option Bundle)) (seen : Bool) → list_any (is_bundle bundle) xs ≡ seen → 0 < ports
    → shares ports (Some bundle ∷ xs) (cond seen (each_bundle xs) (bundle ∷ each_bundle xs)) ≡ shares ports xs (each_bundle xs) + adds ports (Some bundle) xs
shares_of_new ports bundle xs true is some =
    let same = shares-Some ports bundle xs (each_bundle xs) some in
    let one : times bundle (each_bundle xs) ≡ 1 = rw is at (once bundle xs) in
    let sum : shares ports (Some bundle ∷ xs) (each_bundle xs) ≡ shares ports xs (each_bundle xs) + 1 * adds ports (Some bundle) xs = rw one at same in
    omega arith
shares_of_new ports bundle xs false is some =
    let same = shares-Some ports bundle xs (each_bundle xs) some in
    let zero_times : times bundle (each_bundle xs) ≡ 0 = rw is at (once bundle xs) in
    let sum : shares ports (Some bundle ∷ xs) (each_bundle xs) ≡ shares ports xs (each_bundle xs) + 0 * adds ports (Some bundle) xs = rw zero_times at same in
    let none = members-none bundle xs is in
    let first = share-Some ports bundle xs some in
    let nothing : share ports (members bundle xs) ≡ 0 = ap (share ports) none ∙ share_none ports some in
    shares-cons ports (Some bundle ∷ xs) bundle (each_bundle xs) ∙ (omega arith)

-- one link more adds its own places
pub places_of-cons : (ports : ℕ) (x : Option Bundle) (xs : List (Option Bundle)) → 0 < ports → places_of ports (x ∷ xs) ≡ places_of ports xs + adds ports x xs
unfolding adds
places_of-cons ports None xs some =
    let new = places_of-parts ports (None ∷ xs) in
    let old = places_of-parts ports xs in
    let counted = alone-None xs in
    let shared : shares ports (None ∷ xs) (each_bundle (None ∷ xs)) ≡ shares ports xs (each_bundle xs) =
    ap (shares ports (None ∷ xs)) (each_bundle-None xs) ∙ shares-None ports xs (each_bundle xs) in
    omega arith
places_of-cons ports (Some bundle) xs some =
    let new = places_of-parts ports (Some bundle ∷ xs) in
    let old = places_of-parts ports xs in
    let counted = alone-Some bundle xs in
    let shared : shares ports (Some bundle ∷ xs) (each_bundle (Some bundle ∷ xs)) ≡ shares ports xs (each_bundle xs) + adds ports (Some bundle) xs =
    ap (shares ports (Some bundle ∷ xs)) (each_bundle-Some bundle xs) ∙ shares_of_new ports bundle xs (list_any (is_bundle bundle) xs) refl some in
    omega arith

-- what a link adds depends on how many of its bundle there are, and not on their order
adds-swap : (ports : ℕ) (x y : Option Bundle) (xs : List (Option Bundle)) → adds ports x xs + adds ports y (x ∷ xs) ≡ adds ports y xs + adds ports x (y ∷ xs)
unfolding adds
adds-swap ports None None xs = refl
adds-swap ports None (Some b) xs = rw (members-None b xs) (omega arith)
adds-swap ports (Some a) None xs = rw (members-None a xs) (omega arith)
adds-swap ports (Some a) (Some b) xs =
    elim (bundle_cases a b) [
      | inl same ↦
          let P : Bundle → Type 0 = λ o. adds ports (Some a) xs + adds ports (Some o) (Some a ∷ xs) ≡ adds ports (Some o) xs + adds ports (Some a) (Some o ∷ xs) in
          subst P same refl
      | inr differ ↦
          let one : members a (Some b ∷ xs) ≡ 0 + members a xs = rw differ.1 at (members-Some a b xs) in
          let two : members b (Some a ∷ xs) ≡ 0 + members b xs = rw differ.0 at (members-Some b a xs) in
          let first : members a (Some b ∷ xs) ≡ members a xs = omega arith in
          let second : members b (Some a ∷ xs) ≡ members b xs = omega arith in
          rw (first, second) (omega arith)
    ]

members-append : (bundle : Bundle) (xs ys : List (Option Bundle)) → members bundle (xs ++ ys) ≡ members bundle xs + members bundle ys
unfolding members
members-append bundle xs ys = sum_by-append (λ x. cond (is_bundle bundle x) 1 0) xs ys

members-cons : (bundle : Bundle) (x : Option Bundle) (xs : List (Option Bundle)) → members bundle (x ∷ xs) ≡ cond (is_bundle bundle x) 1 0 + members bundle xs
unfolding members
members-cons bundle x xs = sum_by-cons (λ one. cond (is_bundle bundle one) 1 0) x xs

members_front : (bundle : Bundle) (x : Option Bundle) (xs ys : List (Option Bundle)) → members bundle (xs ++ x ∷ ys) ≡ members bundle (x ∷ xs ++ ys)
members_front bundle x xs ys =
    let left = members-append bundle xs (x ∷ ys) in
    let here = members-cons bundle x ys in
    let front = members-cons bundle x (xs ++ ys) in
    let right = members-append bundle xs ys in
    omega arith

adds_front : (ports : ℕ) (x y : Option Bundle) (xs ys : List (Option Bundle)) → adds ports y (xs ++ x ∷ ys) ≡ adds ports y (x ∷ xs ++ ys)
unfolding adds
adds_front ports x None xs ys = refl
adds_front ports x (Some bundle) xs ys = ap (λ m. share ports (suc m) - share ports m) (members_front bundle x xs ys)

-- the places do not depend on the order: a link may stand in front
pub places_of_front : (ports : ℕ) (x : Option Bundle) (xs ys : List (Option Bundle)) → 0 < ports → places_of ports (xs ++ x ∷ ys) ≡ places_of ports (x ∷ xs ++ ys)
places_of_front ports x [] ys some = refl
places_of_front ports x (y ∷ xs) ys some =
    let rest = places_of_front ports x xs ys some in
    let later = places_of-cons ports y (xs ++ x ∷ ys) some in
    let moved = adds_front ports x y xs ys in
    let front = places_of-cons ports x (xs ++ ys) some in
    let before = places_of-cons ports y (xs ++ ys) some in
    let whole = places_of-cons ports x (y ∷ xs ++ ys) some in
    let swapped = adds-swap ports x y (xs ++ ys) in
    omega arith

-- a link more, wherever it stands, adds no place or one
pub places_of_more : (ports : ℕ) (x : Option Bundle) (xs ys : List (Option Bundle)) → 0 < ports
    → (places_of ports (xs ++ ys) ≤ places_of ports (xs ++ x ∷ ys)) × (places_of ports (xs ++ x ∷ ys) ≤ places_of ports (xs ++ ys) + 1)
places_of_more ports x xs ys some =
    let front = places_of_front ports x xs ys some in
    let more = places_of-cons ports x (xs ++ ys) some in
    let one = adds-le ports x (xs ++ ys) some in
    (omega arith, omega arith)

-- a link more without a bundle adds one
pub places_of_alone : (ports : ℕ) (xs ys : List (Option Bundle)) → 0 < ports → places_of ports (xs ++ None ∷ ys) ≡ places_of ports (xs ++ ys) + 1
unfolding adds
places_of_alone ports xs ys some = places_of_front ports None xs ys some ∙ places_of-cons ports None (xs ++ ys) some

nothing : (ports : ℕ) → places_of ports [] ≤ 0
unfolding places_of each_bundle
nothing ports = omega arith

-- no link takes more than a place
pub places_of-le : (ports : ℕ) (xs : List (Option Bundle)) → 0 < ports → places_of ports xs ≤ length xs
places_of-le ports [] some = nothing ports
places_of-le ports (x ∷ xs) some =
    let rest = places_of-le ports xs some in
    let more = places_of-cons ports x xs some in
    let one = adds-le ports x xs some in
    omega (arith)

-- one link more of a bundle, by how many there are of it
pub places_of-Some : (ports : ℕ) (bundle : Bundle) (xs : List (Option Bundle)) → 0 < ports
    → places_of ports (Some bundle ∷ xs) ≡ places_of ports xs + (div_ceil (suc (count_by (is_bundle bundle) xs)) ports - div_ceil (count_by (is_bundle bundle) xs) ports)
unfolding adds share members
places_of-Some ports bundle xs some = places_of-cons ports (Some bundle) xs some

-- where a place has one port, each link takes a place
share_single : (m : ℕ) → share 1 m ≡ m
unfolding share
share_single m = let times = div_ceil_times m 1 (omega arith) in omega arith

adds_single : (x : Option Bundle) (xs : List (Option Bundle)) → adds 1 x xs ≡ 1
unfolding adds
adds_single None xs = refl
adds_single (Some bundle) xs = rw (share_single (suc (members bundle xs)), share_single (members bundle xs)) (omega arith)

places_single : (xs : List (Option Bundle)) → length xs ≤ places_of 1 xs
places_single [] = omega arith
places_single (x ∷ xs) =
    let rest = places_single xs in
    let more = places_of-cons 1 x xs (omega arith) in
    let one = adds_single x xs in
    omega arith

-- a place has room for as many links as it has ports
share_room : (ports m : ℕ) → 0 < ports → m ≤ share ports m * ports
unfolding share
share_room ports m some = (div_ceil_times m ports some).0

shares_room : (ports : ℕ) (xs : List (Option Bundle)) (bundles : List Bundle) → 0 < ports → shares 1 xs bundles ≤ shares ports xs bundles * ports
shares_room ports xs [] some = let none = shares-nil 1 xs in omega arith
shares_room ports xs (bundle ∷ bundles) some =
    let rest = shares_room ports xs bundles some in
    let single = shares-cons 1 xs bundle bundles in
    let several = shares-cons ports xs bundle bundles in
    let one = share_single (members bundle xs) in
    let room = share_room ports (members bundle xs) some in
    rw (single, several) (omega arith)

at_least : (a p : ℕ) → 0 < p → a ≤ a * p
at_least zero p some = omega arith
at_least (suc a) p some = let rest = at_least a p some in omega arith

-- so the links are at most the places with their ports
pub length-le-places : (ports : ℕ) (xs : List (Option Bundle)) → 0 < ports → length xs ≤ places_of ports xs * ports
length-le-places ports xs some =
    let single = places_of-parts 1 xs in
    let several = places_of-parts ports xs in
    let most = places_single xs in
    let room = shares_room ports xs (each_bundle xs) some in
    let alone_room = at_least (alone xs) ports some in
    rw several (omega arith)

module _ {X : Type 0} (ports : ℕ) (some : 0 < ports) where
  -- links that are left out free places, or leave them as they are
  pub fewer : (f : X → Option Bundle) (keep : X → Bool) (before : List (Option Bundle)) (xs : List X)
      → places_of ports (before ++ map f (filter keep xs)) ≤ places_of ports (before ++ map f xs)
  fewer f keep before [] = omega arith
  fewer f keep before (x ∷ xs) = by_cases f keep before x xs (keep x)
      (fewer f keep before xs) (fewer f keep (before ++ f x ∷ []) xs) where
        by_cases : (f : X → Option Bundle) (keep : X → Bool) (before : List (Option Bundle)) (x : X) (xs : List X) (kept : Bool)
            → places_of ports (before ++ map f (filter keep xs)) ≤ places_of ports (before ++ map f xs)
            → places_of ports ((before ++ f x ∷ []) ++ map f (filter keep xs)) ≤ places_of ports ((before ++ f x ∷ []) ++ map f xs)
            → places_of ports (before ++ map f (cond kept (x ∷ filter keep xs) (filter keep xs))) ≤ places_of ports (before ++ f x ∷ map f xs)
        by_cases f keep before x xs true without with = rw (append_assoc before (f x ∷ []) (map f (filter keep xs)), append_assoc before (f x ∷ []) (map f xs)) at with
        by_cases f keep before x xs false without with = omega (arith, places_of_more ports (f x) before (map f xs) some)

  -- links that join a bundle take no more places
  pub joined : (f g : X → Option Bundle) → ((x : X) → (g x ≡ f x) ⊎ (f x ≡ None)) → (before : List (Option Bundle)) (xs : List X)
      → places_of ports (before ++ map g xs) ≤ places_of ports (before ++ map f xs)
  joined f g joins before [] = omega arith
  joined f g joins before (x ∷ xs) = by_cases f g before x xs (joins x) (joined f g joins before xs) (joined f g joins (before ++ f x ∷ []) xs) where
    by_cases : (f g : X → Option Bundle) (before : List (Option Bundle)) (x : X) (xs : List X) → (g x ≡ f x) ⊎ (f x ≡ None)
        → places_of ports (before ++ map g xs) ≤ places_of ports (before ++ map f xs)
        → places_of ports ((before ++ f x ∷ []) ++ map g xs) ≤ places_of ports ((before ++ f x ∷ []) ++ map f xs)
        → places_of ports (before ++ g x ∷ map g xs) ≤ places_of ports (before ++ f x ∷ map f xs)
    by_cases f g before x xs (inl same) without with =
        rw same (rw (append_assoc before (f x ∷ []) (map g xs), append_assoc before (f x ∷ []) (map f xs)) at with)
    by_cases f g before x xs (inr none) without with =
        rw none (omega (arith, places_of_more ports (g x) before (map g xs) some, places_of_alone ports before (map f xs) some))
