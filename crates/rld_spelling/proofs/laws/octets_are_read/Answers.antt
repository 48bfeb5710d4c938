use Rattle.rld_spelling.proofs.Smallest.{nothing_read, octet_read, fixed_read, short_read, flag_read}
use Rattle.rld_spelling.proofs.laws.octets_are_read.Goals as goal

pub returns : goal.returns
returns c = record { octet = octet_read; fixed = fixed_read; short = short_read; flag = flag_read; nothing = nothing_read }
