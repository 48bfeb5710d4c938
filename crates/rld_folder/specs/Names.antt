-- The names of the files of a folder.
use Rattle.std.specs.Prelude.{ℕ, ◌<◌, ◌^◌, List, ◌++◌, codes}
use Rattle.std.specs.Fmt.{decimal}
use Rattle.rld_folder.specs.declared.name.Generation.{Generation}
use Rattle.rld_folder.specs.declared.name.Generation.TheVariants.{Former, Numbered}
use Rattle.rld_folder.specs.declared.name.FileName.{FileName}
use Rattle.rld_folder.specs.declared.name.FileName.TheVariants.{Lock, FormerTable, Log}

-- a generation in the name of its log: `17`, and `3-17` of a version before 0.4
abbrev pub word_of : Generation → List ℕ
word_of (Former era number) = decimal era ++ (codes "-" ++ decimal number)
word_of (Numbered number) = decimal number

-- the name of a file: `lock`, `era-3`, `log-17`, `log-3-17`
abbrev pub name_of : FileName → List ℕ
name_of Lock = codes "lock"
name_of (FormerTable era) = codes "era-" ++ decimal era
name_of (Log generation) = codes "log-" ++ word_of generation

-- its numbers have 64 bits
abbrev pub IsGeneration : Generation → Type 0
IsGeneration (Former era number) = (era < 2 ^ 64) × (number < 2 ^ 64)
IsGeneration (Numbered number) = number < 2 ^ 64

-- its numbers have 64 bits
abbrev pub IsName : FileName → Type 0
IsName Lock = Unit {0}
IsName (FormerTable era) = era < 2 ^ 64
IsName (Log generation) = IsGeneration generation
