-- What is exported.
use Rattle.std.specs.Prelude.{⊤, ℕ, List, Option, None, Some}
use Rattle.rld_export.specs.Moments.{IsNamed}

-- the second that a word names, if there is one
abbrev pub IsMoment : (dates : ℕ → List ℕ) → (word : Option (List ℕ)) → (second : ℕ) → Type 0
IsMoment dates None second = ⊤
IsMoment dates (Some word) second = IsNamed dates word second
