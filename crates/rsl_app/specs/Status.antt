-- The exit status of the program, and the messages of its faults.
use Rattle.std.specs.Prelude.{ℕ, ⊤, List, Result, Ok, Err}
use Rattle.rsl_record.specs.declared.exit_status.ExitStatus.{ExitStatus}
use Rattle.rsl_record.specs.declared.exit_status.ExitStatus.TheVariants.{Done, WrongInput}
use Rattle.rsl_app.specs.declared.fault.Fault.{Fault}
use Rattle.rsl_app.specs.declared.fault.Fault.TheVariants.{Usage, Replay, Serve}
use Rattle.rsl_replay.specs.Fault.{status_of}
use Rattle.rsl_replay.specs.Replay.{IsFaultOf}
use Rattle.rsl_serve.specs.Fault.{status_of as status_of_server}
use Rattle.rsl_serve.specs.declared.fault.ServeFault.{ServeFault}
use Rattle.rsl_serve.specs.declared.fault.ServeFault.TheVariants.{Usage as server_usage}

-- wrong arguments of a server are the program's
abbrev pub fault_of_server : ServeFault → Fault
fault_of_server server_usage = Usage
fault_of_server fault = Serve fault

-- wrong arguments are wrong input; else it is the status of the replay's fault, or of the server's
abbrev pub fault_status : Fault → ExitStatus
fault_status Usage = WrongInput
fault_status (Replay fault) = status_of fault
fault_status (Serve fault) = status_of_server fault

-- the exit status of a process with this result
abbrev pub status_after : {T : Type 0} → Result T Fault → ExitStatus
status_after (Ok value) = Done
status_after (Err fault) = fault_status fault

-- a fault of the script that was read is there; wrong arguments are no fault of a script, nor is a
-- fault of a server
abbrev pub IsFaultOfText : (text : List ℕ) → Fault → Type 0
IsFaultOfText text Usage = ⊤
IsFaultOfText text (Replay fault) = IsFaultOf text fault
IsFaultOfText text (Serve fault) = ⊥
