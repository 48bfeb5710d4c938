use Rattle.rld_values.proofs.Fronts.{no_digits, one_digit, two_digits}
use Rattle.rld_values.proofs.reading.hex_front.Goals as goal

pub returns-in_default : goal.returns-in_default
returns-in_default c = one_digit c.args.digits.now c.requires c.in_default.len_below

pub returns-in-Some : goal.returns-in-Some
returns-in-Some c = two_digits c.args.digits.now _ c.in-len2-up.len_at_least c.in-Some.ensures

pub returns-in-None : goal.returns-in-None
returns-in-None c = no_digits c.args.digits.now c.in-len2-up.len_at_least c.in-None.ensures
