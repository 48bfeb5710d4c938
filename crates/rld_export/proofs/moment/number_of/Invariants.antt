use Rattle.std.proofs.Common.{◌≡◌, drop}
use Rattle.std.specs.Prelude.{fold}
use Rattle.std.specs.List.{list_all}
use Rattle.rld_export.specs.Moments.{is_digit, number_in, with_digit}
use Rattle.rld_export.proofs.moment.number_of.Given as goal

-- with the digits that are left the number is that of all
abbrev pub invariant-loop-octet : goal.invariant-loop-octet
invariant-loop-octet l =
    (fold with_digit l.number (drop l.octet-index l.digits) ≡ number_in l.digits)
    × (list_all is_digit l.digits ≡ list_all is_digit (drop l.octet-index l.digits))
