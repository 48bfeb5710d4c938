-- The header that a log must have, and the next one.
use Rattle.std.specs.Prelude.{◌≡◌, ℕ, ◌+◌, List, nat_eq, if◌then◌else◌, Option, None, Some}
use Rattle.rld_folder.specs.declared.name.FileName.{FileName}
use Rattle.rld_spelling.specs.declared.header.Header.{Header}
use Rattle.rld_start.specs.Numbers.{greatest_by, number_of}
use Rattle.rld_start.specs.declared.wrong.Cause.{Cause}
use Rattle.rld_start.specs.declared.wrong.Cause.TheVariants.{OtherGeneration}

-- why a header is not that of the generation with a number, if it is not
abbrev pub header_cause : Header → (number : ℕ) → Option Cause
header_cause header number = if nat_eq header.generation number then None else Some OtherGeneration

-- the header of a new history
abbrev pub first_header : (generation boot : ℕ) → Header
first_header generation boot = record { generation = generation; table = 1; boot = boot; lines = 0 }

-- the header of the generation with the number `generation`, after one with `moves` moves
abbrev pub header_after : Header → (generation moves : ℕ) → Header
header_after header generation moves = record {
  generation = generation;
  table = header.table;
  boot = header.boot;
  lines = header.lines + moves;
}

-- the same, where it has another table
abbrev pub header_changed : Header → (generation moves : ℕ) → Header
header_changed header generation moves = record {
  generation = generation;
  table = header.table + 1;
  boot = header.boot;
  lines = header.lines + moves;
}

-- its generation has the number after the greatest of the folder's logs
abbrev pub IsNewNumber : List FileName → Header → Type 0
IsNewNumber files header = header.generation ≡ greatest_by number_of files + 1
