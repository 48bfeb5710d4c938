-- The files that the archive of a folder may have.
use Rattle.std.specs.Prelude.{⊤, Option, Some, None}
use Rattle.rld_folder.specs.Newest.{Precedes}
use Rattle.rld_folder.specs.declared.name.Generation.{Generation}
use Rattle.rld_folder.specs.declared.name.FileName.{FileName}
use Rattle.rld_folder.specs.declared.name.FileName.TheVariants.{Lock, FormerTable, Log}

-- no log, or that of a generation before the one that counts, which has to be there
abbrev pub IsEarlier : (begun : Option Generation) → FileName → Type 0
IsEarlier begun Lock = ⊤
IsEarlier begun (FormerTable era) = ⊤
IsEarlier None (Log generation) = ⊥
IsEarlier (Some begun) (Log generation) = Precedes generation begun
