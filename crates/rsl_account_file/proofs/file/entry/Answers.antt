use Rattle.std.proofs.Common.{refl}
use Rattle.rsl_accounts.specs.declared.field.Field.TheVariants as field
use Rattle.rsl_account_file.proofs.Values.{has_32_bits}
use Rattle.rsl_account_file.proofs.file.entry.Goals as goal

pub short_number-requires : goal.short_number-requires
short_number-requires c = has_32_bits field.ServiceType (λ n. refl)

pub short_number-requires-2 : goal.short_number-requires-2
short_number-requires-2 c = has_32_bits field.FramedProtocol (λ n. refl)

pub short_number-requires-3 : goal.short_number-requires-3
short_number-requires-3 c = has_32_bits field.SessionTimeout (λ n. refl)

pub short_number-requires-4 : goal.short_number-requires-4
short_number-requires-4 c = has_32_bits field.IdleTimeout (λ n. refl)
