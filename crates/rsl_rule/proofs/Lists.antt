-- Loops over a list that keep, map or find: the words of `std` one element further on.
use Rattle.std.proofs.Common.{◌≡◌, ℕ, zero, suc, ◌+◌, ◌<◌, ◌≤◌, List, [], ◌∷◌, ◌++◌, take, drop, get_or, length, Bool, true, false, cond, not, refl, ap, sym, ◌∙◌, subst, arith, add-one, append_assoc, append-nil, drop-cons}
use Rattle.std.specs.Prelude.{Some, None, filter, find}
use Rattle.std.proofs.lemmas.List.{take_more, map_more, drop_more, take_all, drop_all}
use Rattle.std.proofs.lemmas.List.Elements.{filter-append}

pub filter_yes : {A : Type 0} (p : A → Bool) (xs : List A) (i : ℕ) (x : A) → i < length xs → x ≡ get_or xs i x → p x ≡ true → filter p (take (i + 1) xs) ≡ filter p (take i xs) ++ x ∷ []
filter_yes p xs i x within is passes =
    ap (filter p) (take_more xs i x within ∙ ap (λ y. take i xs ++ y ∷ []) (sym is)) ∙ filter-append p (take i xs) (x ∷ []) ∙ rw passes refl

pub filter_no : {A : Type 0} (p : A → Bool) (xs : List A) (i : ℕ) (x : A) → i < length xs → x ≡ get_or xs i x → p x ≡ false → filter p (take (i + 1) xs) ≡ filter p (take i xs)
filter_no p xs i x within is misses =
    ap (filter p) (take_more xs i x within ∙ ap (λ y. take i xs ++ y ∷ []) (sym is)) ∙ filter-append p (take i xs) (x ∷ []) ∙ rw misses (append-nil (filter p (take i xs)))

pub find_yes : {A : Type 0} (p : A → Bool) (xs : List A) (i : ℕ) (x : A) → i < length xs → x ≡ get_or xs i x → p x ≡ true → find p (drop i xs) ≡ Some x
find_yes p xs i x within is passes =
    ap (find p) (drop_more xs i x within ∙ ap (λ y. y ∷ drop (i + 1) xs) (sym is)) ∙ rw passes refl

pub find_no : {A : Type 0} (p : A → Bool) (xs : List A) (i : ℕ) (x : A) → i < length xs → x ≡ get_or xs i x → p x ≡ false → find p (drop i xs) ≡ find p (drop (i + 1) xs)
find_no p xs i x within is misses =
    ap (find p) (drop_more xs i x within ∙ ap (λ y. y ∷ drop (i + 1) xs) (sym is)) ∙ rw misses refl

pub find_end : {A : Type 0} (p : A → Bool) (xs : List A) (i : ℕ) → length xs ≤ i → find p (drop i xs) ≡ None
find_end p xs i past = ap (find p) (drop_all i xs past)

pub ruleset filter_steps = (filter_yes, filter_no, take_all)

pub ruleset map_steps = (map_more, take_all)

pub ruleset find_steps = (find_yes, find_no, find_end)
