-- The header of a generation is read as it is spelled.
use Rattle.std.proofs.Common.{refl, arith}
use Rattle.rld_spelling.specs.declared.fault.Cause.TheVariants.{OtherFormat, OtherRule}
use Rattle.rld_spelling.specs.Field.{IsRead}
use Rattle.rld_spelling.specs.Headers.{header_of, header_parts, header_as, header_at, header_octets, header_field, rest_of, rest_parts, rest_as, rest_at, rest_octets, rest_field}
use Rattle.rld_spelling.specs.declared.header.TheConstants.{FORMAT_VERSION}
use Rattle.rld_spelling.proofs.Callers.{number_read, exactly_read, both_read, seen_as_read}
use Rattle.rsl_rule.specs.declared.version.TheConstants.{SESSION_RULE_VERSION}

rest_read : IsRead rest_field
unfolding rest_at rest_octets
rest_read =
    let is : IsRead rest_as = seen_as_read rest_of rest_parts _ (λ x. refl) (λ y. refl)
    (both_read _ _ (exactly_read OtherRule SESSION_RULE_VERSION (omega arith))
    (both_read _ _ number_read (both_read _ _ number_read (both_read _ _ number_read number_read)))) in
    record { spelled = is.spelled; again = is.again }

pub header_read : IsRead header_field
unfolding header_at header_octets
header_read =
    let is : IsRead header_as = seen_as_read header_of header_parts _ (λ x. refl) (λ y. refl)
    (both_read _ _ (exactly_read OtherFormat FORMAT_VERSION (omega arith)) rest_read) in
    record { spelled = is.spelled; again = is.again }
