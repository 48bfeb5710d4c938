-- Which generation is the newest.
use Rattle.std.specs.Prelude.{◌≡◌, ◌⊎◌, ⊤, ◌<◌, ◌&&◌, ◌||◌, ◌==◌, Bool, true, false, nat_lt, List, Option, Some, None, All, Contains}
use Rattle.rld_folder.specs.declared.name.Generation.{Generation}
use Rattle.rld_folder.specs.declared.name.Generation.TheVariants.{Former, Numbered}
use Rattle.rld_folder.specs.declared.name.FileName.{FileName}
use Rattle.rld_folder.specs.declared.name.FileName.TheVariants.{Lock, FormerTable, Log}

-- of versions before 0.4 an earlier era, or an earlier number of the same era; these are all before those that have one
-- number, of which an earlier one is before
abbrev pub Precedes : (one other : Generation) → Type 0
Precedes (Former era number) (Former other_era other_number) =
    (era < other_era) ⊎ ((era ≡ other_era) × (number < other_number))
Precedes (Former era number) (Numbered other) = ⊤
Precedes (Numbered number) (Former other_era other_number) = ⊥
Precedes (Numbered number) (Numbered other) = number < other

-- `Precedes` as a test
abbrev pub precedes : (one other : Generation) → Bool
precedes (Former era number) (Former other_era other_number) =
    nat_lt era other_era || (era == other_era && nat_lt number other_number)
precedes (Former era number) (Numbered other) = true
precedes (Numbered number) (Former other_era other_number) = false
precedes (Numbered number) (Numbered other) = nat_lt number other

-- before a limit, if there is one
abbrev pub IsBelow : (limit : Option Generation) → Generation → Type 0
IsBelow None generation = ⊤
IsBelow (Some limit) generation = Precedes generation limit

-- no generation below the limit that is newer, or none at all
abbrev pub IsNoNewer : (limit newest : Option Generation) → FileName → Type 0
IsNoNewer limit newest Lock = ⊤
IsNoNewer limit newest (FormerTable era) = ⊤
IsNoNewer limit None (Log generation) = IsBelow limit generation → ⊥
IsNoNewer limit (Some newest) (Log generation) =
    IsBelow limit generation → Precedes newest generation → ⊥

-- one of the files is the log of this generation, which is below the limit; or there is none
abbrev pub IsThere : (limit : Option Generation) → (files : List FileName) → Option Generation → Type 0
IsThere limit files None = ⊤
IsThere limit files (Some newest) = Contains files (Log newest) × IsBelow limit newest

-- the newest generation below a limit among files, or none
pub record IsNewest (limit : Option Generation) (files : List FileName) (newest : Option Generation)
    : Type 0 where
  pub there : IsThere limit files newest
  pub no_newer : All (IsNoNewer limit newest) files
