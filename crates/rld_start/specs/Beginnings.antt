-- When a start makes a new history.
use Rattle.std.specs.Prelude.{⊤, Bool, true, false, Option, None, Some, IsSome}
use Rattle.rld_config.specs.declared.new_history.NewHistory.{NewHistory}
use Rattle.rld_config.specs.declared.new_history.NewHistory.TheVariants.{Begins, Refused}
use Rattle.rld_folder.specs.declared.name.Generation.{Generation}
use Rattle.rld_start.specs.declared.count.Found.{Found}

-- A start goes on from the generation that counts. Where none counts it begins a new history,
-- unless that is refused.
abbrev pub may_start : NewHistory → (begun : Option Generation) → Bool
may_start Begins begun = true
may_start Refused None = false
may_start Refused (Some generation) = true

-- a start goes on from a generation, if a new history is refused
abbrev pub HasHistory : NewHistory → Found → Type 0
HasHistory Begins found = ⊤
HasHistory Refused found = IsSome found.from
