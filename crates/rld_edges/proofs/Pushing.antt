-- Jobs that are added at the end of a list.
use Rattle.std.proofs.Common.{◌≡◌, ◌+◌, ◌∷◌, ◌++◌, [], ℕ, List, ap, map, append_assoc, ◌∙◌}
use Rattle.std.proofs.Math.ListN.{replicate}
use Rattle.std.proofs.lemmas.List.{map-append, replicate-append-replicate}

-- one more of a kind of which there were so many
pub one_more : {A B : Type 0} (f : A → B) (first : List B) (jobs more : List A) (job : A) (n : ℕ) (kind : B)
    → more ≡ jobs ++ job ∷ [] → map f jobs ≡ first ++ replicate n kind → f job ≡ kind → map f more ≡ first ++ replicate (n + 1) kind
one_more f first jobs more job n kind pushed before is =
    ap (map f) pushed
    ∙ (map-append f jobs (job ∷ [])
    ∙ (ap (λ all. all ++ f job ∷ []) before
    ∙ (append_assoc first (replicate n kind) (f job ∷ [])
    ∙ ap (λ rest. first ++ rest) (ap (λ last. replicate n kind ++ last ∷ []) is ∙ replicate-append-replicate n 1 kind))))

-- one after the other
two_more : {A B : Type 0} (f : A → B) (before : List B) (jobs one two : List A) (job next : A)
    → map f jobs ≡ before → one ≡ jobs ++ job ∷ [] → two ≡ one ++ next ∷ [] → map f two ≡ before ++ f job ∷ f next ∷ []
two_more f before jobs one two job next is first second =
    ap (map f) second
    ∙ (map-append f one (next ∷ [])
    ∙ (ap (λ all. map f all ++ f next ∷ []) first
    ∙ (ap (λ all. all ++ f next ∷ []) (map-append f jobs (job ∷ []))
    ∙ (ap (λ all. (all ++ f job ∷ []) ++ f next ∷ []) is
    ∙ append_assoc before (f job ∷ []) (f next ∷ [])))))

three_more : {A B : Type 0} (f : A → B) (before : List B) (jobs one two three : List A) (job next last : A)
    → map f jobs ≡ before → one ≡ jobs ++ job ∷ [] → two ≡ one ++ next ∷ [] → three ≡ two ++ last ∷ []
    → map f three ≡ before ++ f job ∷ f next ∷ f last ∷ []
three_more f before jobs one two three job next last is first second third =
    ap (map f) third
    ∙ (map-append f two (last ∷ [])
    ∙ (ap (λ all. all ++ f last ∷ []) (two_more f before jobs one two job next is first second)
    ∙ append_assoc before (f job ∷ f next ∷ []) (f last ∷ [])))

pub four_more : {A B : Type 0} (f : A → B) (before : List B) (jobs one two three four : List A) (job next third last : A)
    → map f jobs ≡ before → one ≡ jobs ++ job ∷ [] → two ≡ one ++ next ∷ [] → three ≡ two ++ third ∷ [] → four ≡ three ++ last ∷ []
    → map f four ≡ before ++ f job ∷ f next ∷ f third ∷ f last ∷ []
four_more f before jobs one two three four job next third last is first second again fourth =
    ap (map f) fourth
    ∙ (map-append f three (last ∷ [])
    ∙ (ap (λ all. all ++ f last ∷ []) (three_more f before jobs one two three job next third is first second again)
    ∙ append_assoc before (f job ∷ f next ∷ f third ∷ []) (f last ∷ [])))
