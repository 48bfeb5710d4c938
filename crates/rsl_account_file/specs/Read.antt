-- The result of reading a text.
use Rattle.std.specs.Prelude.{◌≡◌, ℕ, ◌<◌, ◌≤◌, ⊤, List, length, Result, Ok, Err, Vec}
use Rattle.std.specs.declared.alloc.Global.{Global}
use Rattle.rsl_account_file.specs.declared.text_fault.TextFault.{TextFault}
use Rattle.rsl_account_file.specs.declared.text_fault.TextFault.TheVariants.{Unreadable, TooLong, NoMemory}

-- All octets of a text, if there are no more than it may have. Reads and growths may fail at any
-- time.
abbrev pub IsTextRead : (most : ℕ) (text : List ℕ) → Result (Vec ℕ Global) TextFault → Type 0
IsTextRead most text (Ok octets) = (length text ≤ most) × (octets.items ≡ text)
IsTextRead most text (Err Unreadable) = ⊤
IsTextRead most text (Err TooLong) = most < length text
IsTextRead most text (Err NoMemory) = ⊤
