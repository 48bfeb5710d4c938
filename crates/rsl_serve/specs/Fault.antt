-- Why a server has not started, or has not ended well.
use Rattle.rsl_account_file.specs.declared.file_fault.FileFault.{FileFault}
use Rattle.rsl_account_file.specs.declared.file_fault.FileFault.TheVariants.{Unreadable as file_unreadable, TooLong as file_too_long, Config as file_config, NoMemory as file_no_memory}
use Rattle.rsl_service.specs.declared.receiver.ReceiveFault.{ReceiveFault}
use Rattle.rsl_service.specs.declared.receiver.ReceiveFault.TheVariants.{NoMemory as receive_no_memory}
use Rattle.rsl_record.specs.declared.exit_status.ExitStatus.{ExitStatus}
use Rattle.rsl_record.specs.declared.exit_status.ExitStatus.TheVariants.{WrongInput, InputOutput as input_output_status, NoMemory as no_memory_status}
use Rattle.rsl_service.specs.declared.fault.PassFault.{PassFault}
use Rattle.rsl_service.specs.declared.fault.PassFault.TheVariants.{NoMemory as pass_no_memory}
use Rattle.rsl_record.specs.declared.close_fault.CloseFault.{CloseFault}
use Rattle.rsl_record.specs.declared.close_fault.CloseFault.TheVariants.{NoMemory as close_no_memory}
use Rattle.rsl_serve.specs.declared.fault.ServeFault.{ServeFault}
use Rattle.rsl_serve.specs.declared.fault.ServeFault.TheVariants.{Usage, Unreadable, Config, InputOutput, NoMemory}

-- a file that is too long counts as one that cannot be read
abbrev pub fault_of_file : FileFault → ServeFault
fault_of_file file_unreadable = Unreadable
fault_of_file file_too_long = Unreadable
fault_of_file (file_config fault) = Config fault
fault_of_file file_no_memory = NoMemory

-- refused memory of a pass, a receiver and the closing of a service is `NoMemory`; their other
-- faults are input or output
abbrev pub fault_of_pass : PassFault → ServeFault
fault_of_pass pass_no_memory = NoMemory
fault_of_pass fault = InputOutput

abbrev pub fault_of_receive : ReceiveFault → ServeFault
fault_of_receive receive_no_memory = NoMemory
fault_of_receive fault = InputOutput

abbrev pub fault_of_close : CloseFault → ServeFault
fault_of_close close_no_memory = NoMemory
fault_of_close fault = InputOutput

-- the exit status of a process with this fault: the arguments and the file are its input
abbrev pub status_of : ServeFault → ExitStatus
status_of Usage = WrongInput
status_of Unreadable = WrongInput
status_of (Config fault) = WrongInput
status_of InputOutput = input_output_status
status_of NoMemory = no_memory_status
