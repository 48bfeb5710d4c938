-- Words that are joined, one word after the other.
use Rattle.std.proofs.Common.{◌≡◌, ℕ, ◌+◌, ◌<◌, List, [], ◌∷◌, ◌++◌, length, map, take, get_or, Bor, append_assoc, refl, ap, ◌∙◌, sym}
use Rattle.std.proofs.lemmas.List.{take_more, map-append}
use Rattle.std.specs.List.{join_with_byte}

join_last : (c : ℕ) (first : List ℕ) (words : List (List ℕ)) (word : List ℕ) → join_with_byte c (first ∷ (words ++ word ∷ [])) ≡ join_with_byte c (first ∷ words) ++ c ∷ word
join_last c first [] word = refl
join_last c first (next ∷ words) word =
    ap (λ rest. first ++ c ∷ rest) (join_last c next words word) ∙ sym (append_assoc first (c ∷ join_with_byte c (next ∷ words)) (c ∷ word))

-- one word more
pub join_more : (c : ℕ) (first : List ℕ) (words : List (Bor (List ℕ))) (i : ℕ) (d : Bor (List ℕ)) → i < length words → join_with_byte c (first ∷ map (λ word. word.now) (take (i + 1) words)) ≡ (join_with_byte c (first ∷ map (λ word. word.now) (take i words)) ++ c ∷ []) ++ (get_or words i d).now
join_more c first words i d below =
    let front : List (List ℕ) = map (λ word. word.now) (take i words) in
    let last : List ℕ = (get_or words i d).now in
    let more : map (λ word. word.now) (take (i + 1) words) ≡ front ++ last ∷ [] =
    ap (map (λ word. word.now)) (take_more words i d below) ∙ map-append (λ word. word.now) (take i words) (get_or words i d ∷ []) in
    ap (λ rest. join_with_byte c (first ∷ rest)) more
    ∙ (join_last c first front last ∙ sym (append_assoc (join_with_byte c (first ∷ front)) (c ∷ []) last))
