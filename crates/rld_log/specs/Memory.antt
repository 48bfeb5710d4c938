-- A log in memory: what a crash may make of the changes since the last sync.
use Rattle.std.specs.Prelude.{◌≡◌, ℕ, List, [], ◌∷◌, ◌++◌, reverse}
use Rattle.rld_log.specs.declared.log.Ending.{Ending}
use Rattle.rld_log.specs.declared.log.Ending.TheVariants.{Kill, PowerLoss}
use Rattle.rld_log.specs.declared.memory.Step.{Step}
use Rattle.rld_log.specs.declared.memory.Step.TheVariants as steps
use Rattle.rld_log.specs.Log.{Appends, Cuts, Shortens}

-- What a crash may make of a step. A kill leaves a write that did not fail whole; a loss of power
-- may leave a beginning of it, or nothing.
abbrev pub Takes : Ending → Step → (old new : List ℕ) → Type 0
Takes Kill (steps.Append octets) old new = new ≡ old ++ octets.items
Takes PowerLoss (steps.Append octets) old new = Appends Shortens octets.items old new
Takes ending (steps.Broken octets) old new = Appends Shortens octets.items old new
Takes ending (steps.Cut len) old new = Cuts len old new

-- from what was synced, through the steps, newest first
abbrev pub Reaches : Ending → (synced : List ℕ) → List Step → List ℕ → Type 0
Reaches ending synced [] left = left ≡ synced
Reaches ending synced (step ∷ earlier) left = (before : List ℕ) × Reaches ending synced earlier before × Takes ending step before left

-- from what was synced, through the steps, newest last
abbrev pub reaches : (synced : List ℕ) → List Step → Ending → List ℕ → Type 0
reaches synced made ending left = Reaches ending synced (reverse made) left
