-- Requests that are made of the values of their words.
use Rattle.std.proofs.Common.{ℕ, List, [], map, Bor}

abbrev pub seen : List (Bor (List ℕ)) → List (List ℕ)
seen words = map (λ word. word.now) words

-- what a word that is not there would be
abbrev pub no_word : Bor (List ℕ)
no_word = record { ref_ptr = (0, 0); now = [] }
