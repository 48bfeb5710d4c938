-- Which of two logs counts.
use Rattle.std.specs.Prelude.{ℕ, List}
use Rattle.rld_store.specs.Generations.{IsUnbegun}
use Rattle.rld_lives.specs.declared.ending.Counting.{Counting}
use Rattle.rld_lives.specs.declared.ending.Counting.TheVariants.{Newest, Older}

-- the newest, if its snapshot is whole, and else the older one
abbrev pub IsChosenBy : (newest : List ℕ) → Counting → Type 0
IsChosenBy newest Newest = IsUnbegun newest → ⊥
IsChosenBy newest Older = IsUnbegun newest
