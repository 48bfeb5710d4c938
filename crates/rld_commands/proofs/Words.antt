-- One more word of a line.
use Rattle.std.proofs.Common.{◌≡◌, ℕ, suc, ◌+◌, ◌<◌, List, ◌∷◌, [], ◌++◌, length, drop, get_or, map, add-one, drop-cons, append_assoc, ap, ◌∙◌, sym}
use Rattle.std.specs.Borrow.{Bor}
use Rattle.rld_commands.specs.Asking.{words_text}

pub word_added : (words : List (Bor (List ℕ))) (i : ℕ) (d : Bor (List ℕ)) (written all : List ℕ) → i < length words
    → all ≡ written ++ words_text (map (λ word. word.now) (drop i words))
    → all ≡ ((written ++ 32 ∷ []) ++ (get_or words i d).now) ++ words_text (map (λ word. word.now) (drop (i + 1) words))
word_added words i d written all within so_far =
    let one = (get_or words i d).now in
    let left = words_text (map (λ (word : Bor (List ℕ)). word.now) (drop (suc i) words)) in
    so_far
    ∙ ap (λ (rest : List (Bor (List ℕ))). written ++ words_text (map (λ (word : Bor (List ℕ)). word.now) rest)) (drop-cons words i d within)
    ∙ sym (append_assoc written ((32 ∷ []) ++ one) left)
    ∙ ap (λ (text : List ℕ). text ++ left) (sym (append_assoc written (32 ∷ []) one))
    ∙ ap (λ (n : ℕ). ((written ++ 32 ∷ []) ++ one) ++ words_text (map (λ (word : Bor (List ℕ)). word.now) (drop n words))) (sym (add-one i))

pub ruleset word_steps = (word_added)
