-- The notices on beginning a generation, and on putting old logs away: one when it goes wrong, and
-- one when that is over.
use Rattle.std.specs.Prelude.{Bool, true, false, Option, Some, None, Result, Ok, Err}
use Rattle.rld_folder.specs.declared.fault.FolderFault.{FolderFault}
use Rattle.rld_state.specs.declared.roll_fault.Notice.{Notice}
use Rattle.rld_state.specs.declared.roll_fault.Notice.TheVariants.{NotBegun, Begun, NotPutAway, PutAway}
use Rattle.rld_state.specs.declared.roll_fault.RollFault.{RollFault}

abbrev pub roll_notice : {T : Type 0} → (before : Bool) → Result T RollFault → Option Notice
roll_notice false (Ok value) = None
roll_notice false (Err fault) = Some (NotBegun fault)
roll_notice true (Ok value) = Some Begun
roll_notice true (Err fault) = None

abbrev pub archive_notice : {T : Type 0} → (before : Bool) → Result T FolderFault → Option Notice
archive_notice false (Ok value) = None
archive_notice false (Err fault) = Some (NotPutAway fault)
archive_notice true (Ok value) = Some PutAway
archive_notice true (Err fault) = None
