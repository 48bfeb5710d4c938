use Rattle.rsl_account_file.proofs.Values.{interval_has_32_bits}
use Rattle.rsl_account_file.proofs.table.interim.Goals as goal

pub short_number-requires : goal.short_number-requires
short_number-requires c = interval_has_32_bits
