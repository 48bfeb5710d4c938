-- What an Accounting-Request reports, by its Acct-Status-Type (RFC 2866 section 5.1).
use Rattle.std.specs.Prelude.{ℕ, ◌==◌, if◌then◌else◌, Option, Some, None}
use Rattle.rsl_event.specs.declared.codes.TheConstants as codes
use Rattle.rsl_event.specs.declared.status.Status.{Status}
use Rattle.rsl_event.specs.declared.status.Status.TheVariants.{Start, Stop, InterimUpdate, AccountingOn, AccountingOff}

-- the number of a status
abbrev pub status_number : Status → ℕ
status_number Start = codes.START
status_number Stop = codes.STOP
status_number InterimUpdate = codes.INTERIM_UPDATE
status_number AccountingOn = codes.ACCOUNTING_ON
status_number AccountingOff = codes.ACCOUNTING_OFF

-- the status with this number, if there is one
abbrev pub status_of : ℕ → Option Status
status_of number =
    if number == codes.START then Some Start
    else if number == codes.STOP then Some Stop
    else if number == codes.INTERIM_UPDATE then Some InterimUpdate
    else if number == codes.ACCOUNTING_ON then Some AccountingOn
    else if number == codes.ACCOUNTING_OFF then Some AccountingOff
    else None
