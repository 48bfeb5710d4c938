-- Which generation counts, and that a start goes on from it.
use Rattle.std.specs.Prelude.{◌≡◌, ⊤, IsTrue, List, Option, None, Some, All, Contains}
use Rattle.std.specs.Option.{option_map}
use Rattle.rld_folder.specs.Newest.{IsBelow, Precedes}
use Rattle.rld_folder.specs.declared.name.FileName.{FileName}
use Rattle.rld_folder.specs.declared.name.FileName.TheVariants.{Lock, FormerTable, Log}
use Rattle.rld_folder.specs.declared.name.Generation.{Generation}
use Rattle.rld_start.specs.Firsts.{IsBegun, IsUnspoilt}
use Rattle.rld_start.specs.Numbers.{may_begin}
use Rattle.rld_start.specs.declared.newest.Begun.{Begun as WasBegun}
use Rattle.rld_start.specs.declared.newest.Look.{Look}
use Rattle.rld_start.specs.declared.newest.Look.TheVariants.{Begun as begun, Unbegun as unbegun}
use Rattle.rld_start.specs.declared.newest.Newest.{Newest}
use Rattle.rld_start.specs.declared.look.Unbegun.{Unbegun as NotBegun}

-- two frames are at the front of a generation that was begun, and none with a spoilt length behind them
abbrev pub HasFirst : WasBegun → Type 0
HasFirst found = IsBegun found.frames.octets.items × IsUnspoilt found.frames.octets.items

-- the log that was looked at is that of a generation
abbrev pub IsLookAt : Generation → Look → Type 0
IsLookAt generation (begun found) = (found.generation ≡ generation) × HasFirst found
IsLookAt generation (unbegun found) = found.generation ≡ generation

-- a look found that a generation was not begun
abbrev pub WasPassed : (passed : List NotBegun) → Generation → Type 0
WasPassed passed generation = Contains passed (record { generation = generation })

-- each log that is not below a limit was passed over
abbrev pub IsPassed : (limit : Option Generation) → (passed : List NotBegun) → FileName → Type 0
IsPassed limit passed Lock = ⊤
IsPassed limit passed (FormerTable era) = ⊤
IsPassed limit passed (Log generation) = (IsBelow limit generation → ⊥) → WasPassed passed generation

-- each log was passed over
abbrev pub IsLogPassed : (passed : List NotBegun) → FileName → Type 0
IsLogPassed passed Lock = ⊤
IsLogPassed passed (FormerTable era) = ⊤
IsLogPassed passed (Log generation) = WasPassed passed generation

-- each log that is newer than the generation that counts was passed over
abbrev pub IsNewerPassed : Generation → (passed : List NotBegun) → FileName → Type 0
IsNewerPassed counts passed Lock = ⊤
IsNewerPassed counts passed (FormerTable era) = ⊤
IsNewerPassed counts passed (Log generation) = Precedes counts generation → WasPassed passed generation

-- The generation that counts is among the files, and was begun, and each newer log was passed over. If none
-- counts, each log was passed over, and a new history may begin beside them.
abbrev pub IsNewestOf : (files : List FileName) → Option WasBegun → (passed : List NotBegun) → Type 0
IsNewestOf files None passed = All (IsLogPassed passed) files × IsTrue (may_begin files)
IsNewestOf files (Some found) passed =
    Contains files (Log found.generation) × All (IsNewerPassed found.generation passed) files × HasFirst found

abbrev pub IsNewestBegun : (files : List FileName) → Newest → Type 0
IsNewestBegun files newest = IsNewestOf files newest.begun newest.passed.items

-- the generation that counts, if one does
abbrev pub generation_in : Option WasBegun → Option Generation
generation_in found = option_map (λ (found : WasBegun). found.generation) found
