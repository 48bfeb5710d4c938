-- The words of an answer's lines, each with its key.
use Rattle.std.specs.Prelude.{ℕ, List, [], ◌∷◌, ◌++◌, Option, None, Some}
use Rattle.std.specs.Fmt.{decimal}
use Rattle.rld_values.specs.Values.{escaped}

-- a space, a key, `=` and a number
abbrev pub number_word : (key : List ℕ) → ℕ → List ℕ
number_word key number = 32 ∷ (key ++ (61 ∷ decimal number))

-- a space, a key, `=` and octets, if there are any
abbrev pub octets_word_if : (key : List ℕ) → Option (List ℕ) → List ℕ
octets_word_if key None = []
octets_word_if key (Some octets) = 32 ∷ (key ++ (61 ∷ escaped octets))
