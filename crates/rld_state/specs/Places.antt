-- The places of one account, from the rows of all.
use Rattle.std.specs.Prelude.{ℕ, ◌==◌, List, [], ◌∷◌, Option, Some, None, if◌then◌else◌}
use Rattle.rld_look.specs.declared.line.Places.{Places}
use Rattle.rsl_shard.specs.declared.row.Row.{Row}

-- the places of the first row of the account
unfoldable pub places_in : (account : ℕ) → List Row → Option Places
places_in account [] = None
places_in account (row ∷ rows) =
    if row.account == account then Some (record { held = row.held; all = row.places }) else places_in account rows
