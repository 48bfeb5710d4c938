-- Whether the disk had no room for what a start, or a generation after it, had to write.
use Rattle.std.specs.Prelude.{Bool, true, false}
use Rattle.rld_folder.specs.declared.fault.FolderFault.{FolderFault}
use Rattle.rld_folder.specs.declared.fault.FolderFault.TheVariants as folders
use Rattle.rld_log.specs.declared.fault.LogFault.{LogFault}
use Rattle.rld_log.specs.declared.fault.LogFault.TheVariants as logs
use Rattle.rld_start.specs.declared.fault.StartFault.{StartFault}
use Rattle.rld_start.specs.declared.fault.StartFault.TheVariants as faults

abbrev pub is_full_for_file : FolderFault → Bool
is_full_for_file folders.NoRoom = true
is_full_for_file _ = false

abbrev pub is_full_for_log : LogFault → Bool
is_full_for_log logs.NoRoom = true
is_full_for_log _ = false

abbrev pub is_full_for : StartFault → Bool
is_full_for (faults.Folder fault) = is_full_for_file fault
is_full_for (faults.File file fault) = is_full_for_file fault
is_full_for (faults.Log file fault) = is_full_for_log fault
is_full_for _ = false
