-- The fault of a server among those of its workers, and its exit status.
use Rattle.std.specs.Prelude.{ℕ, ◌<◌, List, [], ◌∷◌, Option, Some, None, Result, Ok, Err, nat_lt, if◌then◌else◌}
use Rattle.rld_start.specs.declared.status.EndStatus.{EndStatus}
use Rattle.rld_start.specs.declared.status.EndStatus.TheVariants as statuses
use Rattle.rld_edges.specs.declared.fault.RunFault.{RunFault}
use Rattle.rld_edges.specs.declared.fault.RunFault.TheVariants.{Unbound, Threads, Down, NoMemory, Unsynced}

-- the gravity of a fault
abbrev pub gravity : RunFault → ℕ
gravity Threads = 1
gravity (Unbound address) = 2
gravity Down = 2
gravity NoMemory = 3
gravity Unsynced = 4

-- what was written may not be on the disk, memory was refused, or a system call failed
abbrev pub status_of : RunFault → EndStatus
status_of (Unbound address) = statuses.InputOutput
status_of Threads = statuses.InputOutput
status_of Down = statuses.InputOutput
status_of NoMemory = statuses.NoMemory
status_of Unsynced = statuses.Unsynced

-- a worker's fault, if it has one
abbrev pub fault_in : {T : Type 0} → Result T RunFault → Option RunFault
fault_in (Ok value) = None
fault_in (Err fault) = Some fault

-- the graver of two, or the first if they are equal
abbrev pub graver : Option RunFault → Option RunFault → Option RunFault
graver None next = next
graver (Some fault) None = Some fault
graver (Some fault) (Some next) = if nat_lt (gravity fault) (gravity next) then Some next else Some fault

-- the gravest of them all and of an earlier one
abbrev pub gravest_after : {T : Type 0} → Option RunFault → List (Result T RunFault) → Option RunFault
gravest_after found [] = found
gravest_after found (ended ∷ more) = gravest_after (graver found (fault_in ended)) more

abbrev pub gravest : {T : Type 0} → List (Result T RunFault) → Option RunFault
gravest ended = gravest_after None ended
