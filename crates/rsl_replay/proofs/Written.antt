-- Faults of reading.
use Rattle.std.proofs.Common.{◌≡◌, ℕ, List, Option, Some, None, IfSome, sym, subst}
use Rattle.std.specs.Prelude.{Err}
use Rattle.rsl_account_file.specs.Read.{IsTextRead}
use Rattle.rsl_account_file.specs.declared.text_fault.TextFault.{TextFault}
use Rattle.rsl_account_file.specs.declared.text_fault.TextFault.TheVariants.{Unreadable, TooLong, NoMemory}
use Rattle.rsl_replay.specs.Fault.{fault_of_text}
use Rattle.rsl_replay.specs.Replay.{IsFaultOf, most_octets}
use Rattle.rsl_replay.specs.declared.fault.ReplayFault.{ReplayFault}

of_text : (text : List ℕ) (fault : TextFault) → IsTextRead most_octets text (Err fault) → IsFaultOf text (fault_of_text fault)
of_text text Unreadable is = tt
of_text text TooLong is = is
of_text text NoMemory is = tt

-- a text whose reading failed has the fault
pub read_fault : (from : Option (List ℕ)) (fault : TextFault) (made : ReplayFault) → made ≡ fault_of_text fault → IfSome from (λ text. IsTextRead most_octets text (Err fault)) → IfSome from (λ text. IsFaultOf text made)
read_fault None fault made is read = tt
read_fault (Some text) fault made is read = subst (IsFaultOf text) (sym is) (of_text text fault read)
