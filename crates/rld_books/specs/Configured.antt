-- Why a table, or the octets of one, give no configuration.
use Rattle.std.specs.Prelude.{◌≡◌, ℕ, List, Ok, Err}
use Rattle.rld_spelling.specs.Lists.{all_of}
use Rattle.rld_spelling.specs.TableSpelled.{TableSeen, table_at}
use Rattle.rld_books.specs.declared.fault.TableFault.{TableFault}
use Rattle.rld_books.specs.declared.fault.TableFault.TheVariants.{NoMemory, Malformed, NoConfiguration}

-- a table is not malformed
abbrev pub IsWhyNotMade : TableFault → Type 0
IsWhyNotMade (Malformed fault) = ⊥
IsWhyNotMade _ = Unit {0}

-- octets are malformed just where they spell no table, and the fault is their first
abbrev pub IsWhyNotRead : List ℕ → TableFault → Type 0
IsWhyNotRead octets NoMemory = Unit {0}
IsWhyNotRead octets (Malformed fault) = all_of (table_at octets) ≡ Err fault
IsWhyNotRead octets NoConfiguration = (table : TableSeen) × (all_of (table_at octets) ≡ Ok table)
