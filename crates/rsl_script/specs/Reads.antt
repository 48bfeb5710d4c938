-- The result of reading a part of a line.
use Rattle.std.specs.Prelude.{◌≡◌, ℕ, ⊤, Option, None, Some, option_and_then, Result, Ok, Err}
use Rattle.rsl_script.specs.declared.fault.LineFault.{LineFault}
use Rattle.rsl_script.specs.declared.fault.LineFault.TheVariants.{Wrong, NoMemory as line_no_memory}
use Rattle.rsl_script.specs.declared.fault.ScriptFault.{ScriptFault}
use Rattle.rsl_script.specs.declared.fault.ScriptFault.TheVariants.{Line, NoMemory}

-- a part, and then the part after it; nothing if either is nothing
infixl 10 ◌>>=◌
abbrev pub ◌>>=◌ : {A B : Type 0} → Option A → (A → Option B) → Option B
part >>= next = option_and_then next part

-- what is said is read, and a fault is wrong only if nothing is said. Memory may be refused at any
-- time
abbrev pub Reads : {T : Type 0} → Option T → Result T LineFault → Type 0
Reads said (Ok value) = said ≡ Some value
Reads said (Err Wrong) = said ≡ None
Reads said (Err line_no_memory) = ⊤

-- the fault of the script whose line with this number has the fault
abbrev pub script_fault_at : (number : ℕ) → LineFault → ScriptFault
script_fault_at number Wrong = Line number
script_fault_at number line_no_memory = NoMemory
