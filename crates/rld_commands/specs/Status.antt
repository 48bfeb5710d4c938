-- The exit status of the program.
use Rattle.std.specs.Prelude.{ℕ, Result, Ok, Err}
use Rattle.rld_edges.specs.Fault as running
use Rattle.rld_start.specs.Status as starting
use Rattle.rld_start.specs.declared.status.EndStatus.TheVariants as statuses
use Rattle.rld_commands.specs.declared.exit.Exit.{Exit}
use Rattle.rld_commands.specs.declared.exit.Exit.TheVariants as exits
use Rattle.rld_commands.specs.declared.exit.Exit.TheVariants.{As}
use Rattle.rld_commands.specs.declared.fault.Fault.{Fault}
use Rattle.rld_commands.specs.declared.fault.Fault.TheVariants.{Usage, BadFile, BadLog, Start, Run, Unbound, Control, Silent, NotReady, Late, Taken, Unwritten, Refused, Unanswered, NotHeld, NoTerminal, InputOutput, NoMemory, NoRoom}

-- wrong arguments, a wrong file and a damaged one are wrong input; so is what nobody says yes to
abbrev pub fault_status : Fault → Exit
fault_status (Usage misuse) = As statuses.WrongInput
fault_status (BadFile bad) = As statuses.WrongInput
fault_status (BadLog bad) = As statuses.WrongInput
fault_status (Start fault) = As (starting.status_of fault)
fault_status (Run fault) = As (running.status_of fault)
fault_status (Unbound address cause) = As statuses.InputOutput
fault_status (Control path cause) = As statuses.InputOutput
fault_status (Silent path) = As statuses.InputOutput
fault_status (NotReady why) = As statuses.NotReady
fault_status (Late path secs) = As statuses.TimedOut
fault_status (Taken path) = As statuses.InputOutput
fault_status (Unwritten path) = As statuses.InputOutput
fault_status (Refused text) = As statuses.InputOutput
fault_status Unanswered = As statuses.TimedOut
fault_status NoTerminal = As statuses.WrongInput
fault_status InputOutput = As statuses.InputOutput
fault_status NoMemory = As statuses.NoMemory
fault_status NoRoom = As statuses.InputOutput
fault_status NotHeld = exits.NotHeld

-- the status of a process whose work came to this
abbrev pub status_after : {T : Type 0} → Result T Fault → Exit
status_after (Ok value) = As statuses.Done
status_after (Err fault) = fault_status fault

-- what is not held has a status of its own, since no command that says so ends with that of memory which was refused
abbrev pub exit_number : Exit → ℕ
exit_number (As status) = starting.number_of status
exit_number exits.NotHeld = 3

abbrev pub without_no_memory : {T : Type 0} → Result T Fault → Result T Fault
without_no_memory (Err NoMemory) = Err NoRoom
without_no_memory outcome = outcome
