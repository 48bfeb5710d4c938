-- The faults of a start that others cause.
use Rattle.std.specs.Prelude.{◌≡◌, ⊤}
use Rattle.rld_folder.specs.declared.fault.FolderFault.{FolderFault}
use Rattle.rld_folder.specs.declared.fault.FolderFault.TheVariants as folders
use Rattle.rld_folder.specs.declared.name.FileName.{FileName}
use Rattle.rld_folder.specs.declared.name.FileName.TheVariants.{Log as log_named}
use Rattle.rld_folder.specs.declared.name.Generation.{Generation}
use Rattle.rld_log.specs.declared.fault.LogFault.{LogFault}
use Rattle.rld_log.specs.declared.fault.LogFault.TheVariants as logs
use Rattle.rld_start.specs.declared.fault.StartFault.{StartFault}
use Rattle.rld_start.specs.declared.fault.StartFault.TheVariants.{NoMemory, Folder, File, Log, BadLog}
use Rattle.rld_start.specs.declared.wrong.Cause.{Cause}
use Rattle.rld_start.specs.declared.wrong.Cause.TheVariants.{Misfit}

-- refused memory stays that; any other fault is one of the folder
abbrev pub fault_of_folder : FolderFault → StartFault
fault_of_folder folders.NoMemory = NoMemory
fault_of_folder fault = Folder fault

-- or of its file
abbrev pub fault_of_file : FileName → FolderFault → StartFault
fault_of_file file folders.NoMemory = NoMemory
fault_of_file file fault = File file fault

-- or of a call on a log
abbrev pub fault_of_log : FileName → LogFault → StartFault
fault_of_log file logs.NoMemory = NoMemory
fault_of_log file fault = Log file fault

-- what a snapshot has does not fit
abbrev pub IsMisfit : Cause → Type 0
IsMisfit (Misfit fault) = ⊤
IsMisfit _ = ⊥

-- no books are admitted of the log of a generation: memory is refused, or what its snapshot has does
-- not fit
abbrev pub IsWhyNotAdmitted : Generation → StartFault → Type 0
IsWhyNotAdmitted generation NoMemory = ⊤
IsWhyNotAdmitted generation (BadLog bad) = (bad.file ≡ log_named generation) × IsMisfit bad.wrong.cause
IsWhyNotAdmitted generation _ = ⊥
