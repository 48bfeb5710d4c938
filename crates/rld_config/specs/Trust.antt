-- Who may do what with an account file.
use Rattle.std.specs.Prelude.{ℕ, Bool, not, ◌==◌, ◌&&◌, bit_and, if◌then◌else◌, Option, None, Some}
use Rattle.rld_config.specs.declared.trust.Exposure.{Exposure}
use Rattle.rld_config.specs.declared.trust.Exposure.TheVariants.{Writable, Readable}
use Rattle.rld_config.specs.declared.trust.Trust.{Trust}

-- whether others than the owner and his group can write to a file of this mode
abbrev pub others_write : (mode : ℕ) → Bool
others_write mode = not (bit_and mode 2 == 0)

-- whether everybody can read a file of this mode
abbrev pub others_read : (mode : ℕ) → Bool
others_read mode = not (bit_and mode 4 == 0)

-- no others may write to it, and to read it they need the operator's permission
abbrev pub exposure_of : Trust → (mode : ℕ) → Option Exposure
exposure_of trust mode =
    if others_write mode then Some Writable
    else if others_read mode && not trust.readable_accounts then Some Readable
    else None
