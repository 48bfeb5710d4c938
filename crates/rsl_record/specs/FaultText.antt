-- The text of each fault of a closing, as it is printed.
use Rattle.std.specs.Prelude.{ℕ, List, ◌++◌, codes}
use Rattle.std.specs.Fmt.{decimal}
use Rattle.rsl_record.specs.declared.close_fault.CloseFault.{CloseFault}
use Rattle.rsl_record.specs.declared.close_fault.CloseFault.TheVariants.{MissingPass, MissingSegment, Mismatch, NoMemory}

abbrev pub fault_text : CloseFault → List ℕ
fault_text MissingPass = codes "missing pass"
fault_text (MissingSegment shard) = codes "missing segment of shard " ++ decimal shard
fault_text (Mismatch shard position) =
    codes "mismatch at " ++ decimal position ++ codes " of shard " ++ decimal shard
fault_text NoMemory = codes "no memory"
