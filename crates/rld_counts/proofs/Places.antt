-- The numbers of places, one after another.
use Rattle.std.proofs.Common.{◌≡◌, ℕ, ◌+◌, List, [], ◌∷◌, ◌++◌, map, sym, ap, ◌∙◌, zero-add}
use Rattle.std.proofs.lemmas.List.{map-append, map-id}
use Rattle.std.proofs.lemmas.List.FromFn.{map-range_with_len_more}
use Rattle.std.specs.List.{range_with_len}
use Rattle.rld_counts.specs.declared.board.Place.{Place}

-- one more number of a range
one_more : (n : ℕ) → range_with_len 0 (n + 1) ≡ range_with_len 0 n ++ n ∷ []
one_more n =
    sym (map-id (range_with_len 0 (n + 1)))
    ∙ map-range_with_len_more (λ (x : ℕ). x) 0 n n (zero-add n)
    ∙ ap (λ (xs : List ℕ). xs ++ n ∷ []) (map-id (range_with_len 0 n))

-- the numbers of places, and of one more
pub next_number : (places more : List Place) (place : Place) (n : ℕ)
    → more ≡ places ++ place ∷ [] → place.number ≡ n → map (λ (one : Place). one.number) places ≡ range_with_len 0 n
    → map (λ (one : Place). one.number) more ≡ range_with_len 0 (n + 1)
next_number places more place n pushed is before =
    ap (map (λ (one : Place). one.number)) pushed
    ∙ map-append (λ (one : Place). one.number) places (place ∷ [])
    ∙ ap (λ (x : ℕ). map (λ (one : Place). one.number) places ++ x ∷ []) is
    ∙ ap (λ (xs : List ℕ). xs ++ n ∷ []) before
    ∙ sym (one_more n)
