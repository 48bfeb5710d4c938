-- The exit status of a server that does not start.
use Rattle.std.specs.Prelude.{ℕ}
use Rattle.rld_folder.specs.declared.fault.FolderFault.{FolderFault}
use Rattle.rld_folder.specs.declared.fault.FolderFault.TheVariants as folders
use Rattle.rld_log.specs.declared.fault.LogFault.{LogFault}
use Rattle.rld_log.specs.declared.fault.LogFault.TheVariants as logs
use Rattle.rld_start.specs.declared.fault.StartFault.{StartFault}
use Rattle.rld_start.specs.declared.fault.StartFault.TheVariants as faults
use Rattle.rld_start.specs.declared.status.EndStatus.{EndStatus}
use Rattle.rld_start.specs.declared.status.EndStatus.TheVariants.{Done, WrongInput, InputOutput, NoMemory, Unsynced, NotReady, TimedOut}

-- the exit status of the process
abbrev pub number_of : EndStatus → ℕ
number_of Done = 0
number_of WrongInput = 1
number_of InputOutput = 2
number_of NoMemory = 3
number_of Unsynced = 4
number_of NotReady = 1
number_of TimedOut = 5

-- the operator has to mend a folder of the wrong kind or with the wrong mode
abbrev pub status_of_folder : FolderFault → EndStatus
status_of_folder folders.NoMemory = NoMemory
status_of_folder folders.Unmade = InputOutput
status_of_folder folders.Unread = InputOutput
status_of_folder folders.NoFolder = WrongInput
status_of_folder folders.Foreign = WrongInput
status_of_folder folders.Linked = WrongInput
status_of_folder folders.Exposed = WrongInput
status_of_folder folders.Busy = InputOutput
status_of_folder folders.Unlocked = InputOutput
status_of_folder folders.Unopened = InputOutput
status_of_folder folders.Unwritten = InputOutput
status_of_folder folders.NoRoom = InputOutput
status_of_folder folders.Unmoved = InputOutput
status_of_folder folders.Unremoved = InputOutput
status_of_folder folders.Unsynced = Unsynced

abbrev pub status_of_log : LogFault → EndStatus
status_of_log logs.NoMemory = NoMemory
status_of_log logs.Unread = InputOutput
status_of_log logs.Unwritten = InputOutput
status_of_log logs.NoRoom = InputOutput
status_of_log logs.Uncut = InputOutput
status_of_log logs.Unsynced = Unsynced

-- what is in the folder and in the operator's files is wrong input
abbrev pub status_of : StartFault → EndStatus
status_of faults.NoMemory = NoMemory
status_of (faults.Folder fault) = status_of_folder fault
status_of (faults.File file fault) = status_of_folder fault
status_of (faults.Log file fault) = status_of_log fault
status_of (faults.BadLog bad) = WrongInput
status_of faults.OtherAccounts = WrongInput
status_of (faults.Unwritable file) = InputOutput
status_of faults.NoNumber = WrongInput
status_of faults.NoHistory = WrongInput
status_of faults.NoNewHistory = WrongInput
