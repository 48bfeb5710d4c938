use Rattle.std.proofs.Common.{◌<◌, ◌^◌, arith}
use Rattle.rsl_account_file.proofs.Values.{port_has_16_bits}
use Rattle.rsl_account_file.proofs.table.port.Goals as goal

pub overflow_cast-result : goal.overflow_cast-result
overflow_cast-result c =
    let short : c.in_ok-number.field-0 < 2 ^ 16 = port_has_16_bits c.in_ok-number.field-0 c.in_ok-number.ensures.right in
    omega arith
