-- What a server prints of its receivers once it has ended well.
use Rattle.std.specs.Prelude.{ℕ, List, [], ◌∷◌, ◌++◌, codes}
use Rattle.std.specs.Fmt.{decimal}
use Rattle.rsl_service.specs.declared.counts.Counts.{Counts}

-- a word and a number, after a space each
abbrev pub counted : (word : List ℕ) → (number : ℕ) → List ℕ
counted word number = 32 ∷ word ++ 32 ∷ decimal number

-- what the receiver of a port did
abbrev pub counts_line : (port : List ℕ) → Counts → List ℕ
counts_line port counts =
    port
    ++ counted (codes "received") counts.received
    ++ counted (codes "answered") counts.answered
    ++ counted (codes "dropped") counts.dropped
    ++ counted (codes "refused") counts.refused
    ++ counted (codes "unsent") counts.unsent
    ++ 10 ∷ []
