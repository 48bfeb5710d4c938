-- Why a script is not replayed.
use Rattle.rsl_accounts.specs.declared.fault.ConfigFault.{ConfigFault}
use Rattle.rsl_accounts.specs.declared.fault.ConfigFault.TheVariants.{NoMemory as config_no_memory}
use Rattle.rsl_record.specs.declared.exit_status.ExitStatus.{ExitStatus}
use Rattle.rsl_record.specs.declared.exit_status.ExitStatus.TheVariants.{WrongInput, InputOutput as input_output_status, NoMemory as no_memory_status}
use Rattle.rsl_script.specs.declared.fault.ScriptFault.{ScriptFault}
use Rattle.rsl_script.specs.declared.fault.ScriptFault.TheVariants.{Line as script_line, NoMemory as script_no_memory}
use Rattle.rsl_account_file.specs.declared.text_fault.TextFault.{TextFault}
use Rattle.rsl_account_file.specs.declared.text_fault.TextFault.TheVariants.{Unreadable as text_unreadable, TooLong as text_too_long, NoMemory as text_no_memory}
use Rattle.rsl_replay.specs.declared.fault.ReplayFault.{ReplayFault}
use Rattle.rsl_replay.specs.declared.fault.ReplayFault.TheVariants.{Line, TooLong, Config, InputOutput, NoMemory}

-- a script whose octets cannot be read: a failing stream is a fault of input
abbrev pub fault_of_text : TextFault → ReplayFault
fault_of_text text_unreadable = InputOutput
fault_of_text text_too_long = TooLong
fault_of_text text_no_memory = NoMemory

-- a wrong line of the script
abbrev pub fault_of_script : ScriptFault → ReplayFault
fault_of_script (script_line number) = Line number
fault_of_script script_no_memory = NoMemory

-- refused memory is `NoMemory`, and every other fault is the configuration's
abbrev pub fault_of_config : ConfigFault → ReplayFault
fault_of_config config_no_memory = NoMemory
fault_of_config fault = Config fault

-- the exit status of a process with this fault: the script is its input
abbrev pub status_of : ReplayFault → ExitStatus
status_of (Line number) = WrongInput
status_of TooLong = WrongInput
status_of (Config fault) = WrongInput
status_of InputOutput = input_output_status
status_of NoMemory = no_memory_status
