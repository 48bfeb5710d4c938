-- The faults of logs whose lines are printed.
use Rattle.std.specs.Prelude.{◌≡◌, ⊤, ℕ, List, string_bytes}
use Rattle.rld_lines.specs.declared.fault.LinesFault.{LinesFault}
use Rattle.rld_lines.specs.declared.fault.LinesFault.TheVariants as lines
use Rattle.rld_start.specs.declared.wrong.Wrong.{Wrong}
use Rattle.rld_commands.specs.declared.fault.Fault.{Fault}
use Rattle.rld_commands.specs.declared.fault.Fault.TheVariants.{BadLog, InputOutput, NoMemory}

-- this is wrong with that log
abbrev pub IsBadLog : (name : List ℕ) → Wrong → Fault → Type 0
IsBadLog name wrong (BadLog bad) = (string_bytes bad.name ≡ name) × (bad.wrong ≡ wrong)
IsBadLog name wrong NoMemory = ⊤
IsBadLog name wrong _ = ⊥

-- the fault of a log whose lines end so
abbrev pub IsFaultOf : (name : List ℕ) → LinesFault → Fault → Type 0
IsFaultOf name lines.NoMemory fault = fault ≡ NoMemory
IsFaultOf name lines.Unwritten fault = fault ≡ InputOutput
IsFaultOf name (lines.Log wrong) fault = IsBadLog name wrong fault
