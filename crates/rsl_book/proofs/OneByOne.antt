-- What is saved one by one, and put back one by one.
use Rattle.std.proofs.Common.{◌≡◌, ℕ, ◌+◌, ◌<◌, ◌≤◌, List, [], ◌∷◌, ◌++◌, take, drop, get_or, length, map, refl, ap, sym, ◌∙◌, append-nil, arith}
use Rattle.std.specs.Prelude.{Option, Some, None}
use Rattle.std.proofs.lemmas.List.{take_more, take_all, map-append, drop_more, length-drop, take-append-drop}
use Rattle.rsl_session.specs.declared.bundle.Bundle.{Bundle}
use Rattle.rsl_session.specs.Places.{places_of}
use Rattle.rsl_session.specs.Book.{BookLink, bundles_in}
use Rattle.rsl_session.proofs.Callers.{places_of-Some, places_of_alone, places_of_front}
use Rattle.rsl_session.specs.declared.saved.SavedLink.{SavedLink}
use Rattle.rsl_session.specs.Saved.{saved_link, saved_links}

module _ {A B : Type 0} where
  pub saved_none : (f : A → B) (xs : List A) → [] ≡ map f (take 0 xs)
  saved_none f xs = refl

  pub saved_more : (f : A → B) (xs : List A) (i : ℕ) (x : A) (y : B) (ys : List B) → i < length xs → x ≡ get_or xs i x → y ≡ f x → ys ≡ map f (take i xs) → ys ++ y ∷ [] ≡ map f (take (i + 1) xs)
  saved_more f xs i x y ys within is same so_far =
      ap (λ zs. zs ++ y ∷ []) so_far ∙ ap (λ z. map f (take i xs) ++ z ∷ []) same ∙ sym (map-append f (take i xs) (x ∷ []))
      ∙ ap (map f) (ap (λ y. take i xs ++ y ∷ []) is ∙ sym (take_more xs i x within))

  pub saved_all : (f : A → B) (xs : List A) (i : ℕ) (ys : List B) → length xs ≤ i → ys ≡ map f (take i xs) → ys ≡ map f xs
  saved_all f xs i ys all so_far = so_far ∙ ap (map f) (take_all i xs all)

pub ruleset saved_steps = (saved_none, saved_more, saved_all)

-- and where what is saved stands for it
module _ {A B C : Type 0} where
  pub stands_none : (f : A → C) (g : B → C) (xs : List A) → map g [] ≡ map f (take 0 xs)
  stands_none f g xs = refl

  pub stands_more : (f : A → C) (g : B → C) (xs : List A) (i : ℕ) (x : A) (y : B) (ys : List B) → i < length xs → x ≡ get_or xs i x → g y ≡ f x → map g ys ≡ map f (take i xs) → map g (ys ++ y ∷ []) ≡ map f (take (i + 1) xs)
  stands_more f g xs i x y ys within is same so_far =
      map-append g ys (y ∷ []) ∙ saved_more f xs i x (g y) (map g ys) within is same so_far

  pub stands_all : (f : A → C) (g : B → C) (xs : List A) (i : ℕ) (ys : List B) → length xs ≤ i → map g ys ≡ map f (take i xs) → map g ys ≡ map f xs
  stands_all f g xs i ys all so_far = saved_all f xs i (map g ys) all so_far

pub ruleset stands_steps = (stands_none, stands_more, stands_all)

-- what is kept in front of the others, where there is room for all
pub kept_more : {A : Type 0} (most : ℕ) (xs : List A) (i : ℕ) (x : A) → i < length xs → length xs ≤ most → x ≡ get_or xs i x → take most (x ∷ drop (i + 1) xs) ≡ drop i xs
kept_more most xs i x within few is =
    let here : x ∷ drop (i + 1) xs ≡ drop i xs = ap (λ y. y ∷ drop (i + 1) xs) is ∙ sym (drop_more xs i x within) in
    let long = length-drop i xs in
    ap (take most) here ∙ take_all most (drop i xs) (omega arith)

-- links that are put back one more
pub links_more : (saved : List SavedLink) (i : ℕ) (x : SavedLink) → i < length saved → x ≡ get_or saved i x → saved_links (take i saved) ++ saved_link x ∷ [] ≡ saved_links (take (i + 1) saved)
unfolding saved_links
links_more saved i x within is = saved_more saved_link saved i x (saved_link x) (map saved_link (take i saved)) within is refl refl

-- more links take no fewer places
grows_by_one : (ports : ℕ) (x : Option Bundle) (xs ys : List (Option Bundle)) → 0 < ports → places_of ports (xs ++ ys) ≤ places_of ports (xs ++ x ∷ ys)
grows_by_one ports None xs ys some = let one = places_of_alone ports xs ys some in omega arith
grows_by_one ports (Some bundle) xs ys some =
    let front = places_of_front ports (Some bundle) xs ys some in
    let more = places_of-Some ports bundle (xs ++ ys) some in
    omega arith

grows : (ports : ℕ) (xs ys : List (Option Bundle)) → 0 < ports → places_of ports xs ≤ places_of ports (xs ++ ys)
grows ports xs [] some = let same = ap (places_of ports) (append-nil xs) in omega arith
grows ports xs (y ∷ ys) some =
    let rest = grows ports xs ys some in
    let one = grows_by_one ports y xs ys some in
    omega arith

pub full_before : (ports limit : ℕ) (saved : List SavedLink) (i : ℕ) (x : SavedLink) → 0 < ports → i < length saved → x ≡ get_or saved i x
    → limit < places_of ports (bundles_in (saved_links (take i saved) ++ saved_link x ∷ [])) → limit < places_of ports (bundles_in (saved_links saved))
unfolding bundles_in saved_links
full_before ports limit saved i x some within is full =
    let first = links_more saved i x within is in
    let both : take (i + 1) saved ++ drop (i + 1) saved ≡ saved = take-append-drop (i + 1) saved in
    let whole : bundles_in (saved_links (take (i + 1) saved)) ++ bundles_in (saved_links (drop (i + 1) saved)) ≡ bundles_in (saved_links saved) =
    sym (map-append (λ (link : BookLink). link.bundle) (map saved_link (take (i + 1) saved)) (map saved_link (drop (i + 1) saved)))
    ∙ ap bundles_in (sym (map-append saved_link (take (i + 1) saved) (drop (i + 1) saved)) ∙ ap saved_links both) in
    let more = grows ports (bundles_in (saved_links (take (i + 1) saved))) (bundles_in (saved_links (drop (i + 1) saved))) some in
    let end = ap (places_of ports) whole in
    let now = ap (λ links. places_of ports (bundles_in links)) first in
    omega arith
