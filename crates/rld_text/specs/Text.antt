-- Prometheus' text format, version 0.0.4.
use Rattle.std.specs.Prelude.{ℕ, ◌+◌, ◌/◌, ◌%◌, ◌==◌, List, [], ◌∷◌, ◌++◌, codes, if◌then◌else◌}
use Rattle.std.specs.Fmt.{decimal}
use Rattle.std.specs.List.{flat_map}

-- an octet of a label's value: a backslash, a quote and a line feed have a backslash before them,
-- and the line feed is an `n`
abbrev pub escaped_octet : ℕ → List ℕ
escaped_octet octet =
    if octet == 92 then 92 ∷ 92 ∷ []
    else if octet == 34 then 92 ∷ 34 ∷ []
    else if octet == 10 then 92 ∷ 110 ∷ []
    else octet ∷ []

-- a label: its name, `=`, and its value in quotes
unfoldable pub label : (name value : List ℕ) → List ℕ
label name value = name ++ (codes "=\"" ++ (flat_map escaped_octet value ++ codes "\""))

-- the head of a metric, before its samples: its help text, and its type
unfoldable pub head_of : (name kind help : List ℕ) → List ℕ
head_of name kind help =
    codes "# HELP " ++ (name ++ (codes " " ++ (help
    ++ (codes "\n# TYPE " ++ (name ++ (codes " " ++ (kind ++ codes "\n")))))))

-- six digits of a number below 1,000,000
abbrev pub six_digits : ℕ → List ℕ
six_digits number =
    (48 + number / 100000 % 10) ∷ (48 + number / 10000 % 10) ∷ (48 + number / 1000 % 10)
    ∷ (48 + number / 100 % 10) ∷ (48 + number / 10 % 10) ∷ (48 + number % 10) ∷ []

-- microseconds as seconds, with six places
unfoldable pub seconds : (micros : ℕ) → List ℕ
seconds micros = decimal (micros / 1000000) ++ (46 ∷ six_digits (micros % 1000000))
