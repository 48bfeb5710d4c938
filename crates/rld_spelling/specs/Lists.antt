-- Lists: the number of values, and each of them.
use Rattle.std.specs.Prelude.{ℕ, zero, suc, List, [], ◌∷◌, ◌++◌, length, Result, Ok, Err}
use Rattle.std.specs.List.{flat_map, All}
use Rattle.rld_spelling.specs.Field.{Field, Reading, then_read, made_of, fault_at}
use Rattle.rld_spelling.specs.Numbers.{number}
use Rattle.rld_spelling.specs.declared.fault.Cause.TheVariants.{Trailing}
use Rattle.rld_spelling.specs.declared.fault.Fault.{Fault}

-- `count` values, one after the other
unfoldable pub values_at : {A : Type 0} → (List ℕ → Reading A) → (count : ℕ) → List ℕ → Reading (List A)
values_at read zero octets = Ok ([], octets)
values_at read (suc count) octets =
    then_read (read octets) (λ x rest. made_of (λ xs. x ∷ xs) (values_at read count rest))

-- the values of a list, after their number, which a field of its own spells
abbrev pub listed : {A : Type 0} → (count : Field ℕ) → Field A → Field (List A)
listed count field = record {
  spell = λ xs. count.spell (length xs) ++ flat_map field.spell xs;
  read = λ octets. then_read (count.read octets) (values_at field.read);
  Fits = λ xs. count.Fits (length xs) × All field.Fits xs;
}

-- a list with any number of values, after that number
abbrev pub list_of : {A : Type 0} → Field A → Field (List A)
list_of field = listed number field

-- a value that takes all of the octets
abbrev pub all_of : {A : Type 0} → Reading A → Result A Fault
all_of (Ok (x, [])) = Ok x
all_of (Ok (x, octet ∷ rest)) = fault_at Trailing (octet ∷ rest)
all_of (Err fault) = Err fault
