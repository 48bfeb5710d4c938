-- The answer of a reader of the code: the result of reading.
use Rattle.std.specs.Prelude.{◌≡◌, ℕ, List, Result, Ok, Err}
use Rattle.std.specs.Borrow.{Bor}
use Rattle.rld_spelling.specs.declared.fault.Fault.{Fault}
use Rattle.rld_spelling.specs.declared.fault.ReadFault.{ReadFault}
use Rattle.rld_spelling.specs.declared.fault.ReadFault.TheVariants.{NoMemory, Malformed}
use Rattle.rld_spelling.specs.Field.{Reading}

-- the value, with these octets left, or the fault
abbrev pub Reads : {A : Type 0} → Result A Fault → (left : List ℕ) → Reading A → Type 0
Reads (Ok x) left reading = reading ≡ Ok (x, left)
Reads (Err fault) left reading = reading ≡ Err fault

-- the value, seen by `view`, with these octets left, or the fault
abbrev pub ReadsSeen : {X A : Type 0} → (view : X → A) → Result X Fault → (left : List ℕ) → Reading A → Type 0
ReadsSeen view (Ok x) left reading = reading ≡ Ok (view x, left)
ReadsSeen view (Err fault) left reading = reading ≡ Err fault

-- the value, with the octets behind it, or the fault
abbrev pub ReadsFront : {A : Type 0} → Result (A × Bor (List ℕ)) Fault → Reading A → Type 0
ReadsFront (Ok front) reading = reading ≡ Ok (front.0, front.1.now)
ReadsFront (Err fault) reading = reading ≡ Err fault

-- this value was found, with these octets behind it
abbrev pub IsFront : {A : Type 0} → Result (A × Bor (List ℕ)) Fault → (value : A) → (rest : List ℕ) → Type 0
IsFront (Ok front) value rest = (front.0 ≡ value) × (front.1.now ≡ rest)
IsFront (Err fault) value rest = ⊥

-- the fault, unless memory was refused
abbrev pub FaultIs : {A : Type 0} → ReadFault → Result A Fault → Type 0
FaultIs NoMemory reading = Unit {0}
FaultIs (Malformed fault) reading = reading ≡ Err fault

-- the value, with these octets left, or the fault, unless memory was refused
abbrev pub ReadsIn : {A : Type 0} → Result A ReadFault → (left : List ℕ) → Reading A → Type 0
ReadsIn (Ok x) left reading = reading ≡ Ok (x, left)
ReadsIn (Err fault) left reading = FaultIs fault reading

-- what all of the octets are read as, seen by `view`, unless memory was refused
abbrev pub Gives : {X A : Type 0} → (view : X → A) → Result X ReadFault → Result A Fault → Type 0
Gives view (Ok x) reading = reading ≡ Ok (view x)
Gives view (Err fault) reading = FaultIs fault reading

-- the value, seen by `view`, with these octets left, or the fault, unless memory was refused
abbrev pub ReadsInto : {X A : Type 0} → (view : X → A) → Result X ReadFault → (left : List ℕ) → Reading A → Type 0
ReadsInto view (Ok x) left reading = reading ≡ Ok (view x, left)
ReadsInto view (Err fault) left reading = FaultIs fault reading
