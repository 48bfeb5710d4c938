-- The fault of a log that a store has refused, with its offset.
use Rattle.std.specs.Prelude.{Option, None, Some}
use Rattle.rld_start.specs.declared.wrong.Cause.TheVariants as causes
use Rattle.rld_start.specs.declared.wrong.Wrong.{Wrong}
use Rattle.rld_store.specs.declared.fault.StoreFault.{StoreFault}
use Rattle.rld_store.specs.declared.fault.StoreFault.TheVariants as faults

-- the offset is that of the fault in the log, or that of the header if the snapshot is not whole
abbrev pub wrong_of : StoreFault → Option Wrong
wrong_of (faults.Damaged damage) = Some (record { offset = damage.offset; cause = causes.Damaged })
wrong_of faults.Unbegun = Some (record { offset = 20; cause = causes.Alone })
wrong_of (faults.Malformed malformed) =
    Some (record { offset = malformed.offset; cause = causes.Malformed malformed.cause })
wrong_of (faults.OtherTable offset) = Some (record { offset = offset; cause = causes.OtherTable })
wrong_of (faults.Misfit offset fault) = Some (record { offset = offset; cause = causes.Misfit fault })
wrong_of (faults.Foreign offset) = Some (record { offset = offset; cause = causes.Foreign })
wrong_of _ = None
