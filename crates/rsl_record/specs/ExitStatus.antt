-- The exit status of a process.
use Rattle.std.specs.Prelude.{ℕ}
use Rattle.rsl_record.specs.declared.exit_status.ExitStatus.{ExitStatus}
use Rattle.rsl_record.specs.declared.exit_status.ExitStatus.TheVariants.{Done, WrongInput, InputOutput, NoMemory}

-- 0 if all was done, 1 for wrong input, 2 for input and output, 3 for memory
abbrev pub number_of : ExitStatus → ℕ
number_of Done = 0
number_of WrongInput = 1
number_of InputOutput = 2
number_of NoMemory = 3
