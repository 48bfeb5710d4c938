-- What the arguments of the program ask for.
use Rattle.std.specs.Prelude.{ℕ, Bool, false, List, codes, bytes_eq, Result, Ok, Err}
use Rattle.std.specs.declared.env.FillError.{FillError}
use Rattle.std.specs.declared.env.FillError.TheVariants.{NotPresent}

-- whether a first argument is the word `replay`, and reading a second one found that there is none
abbrev pub is_replay : (first : List ℕ) → (second : Result ℕ FillError) → Bool
is_replay first (Err NotPresent) = bytes_eq first (codes "replay")
is_replay first _ = false

-- whether a first argument is the word `serve`
abbrev pub is_serve : (first : List ℕ) → Bool
is_serve first = bytes_eq first (codes "serve")
