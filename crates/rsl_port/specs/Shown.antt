-- What a clock and a pause have shown, if they report it.
use Rattle.std.specs.Prelude.{◌≡◌, ⊤, List, ◌++◌, Option, Some, None}

-- these further values were shown, by a clock or a pause that reports what it shows
abbrev pub HasShown : {A : Type 0} → (values : List A) → (old new : Option (List A)) → Type 0
HasShown values old None = ⊤
HasShown values None (Some after) = ⊥
HasShown values (Some before) (Some after) = after ≡ before ++ values
