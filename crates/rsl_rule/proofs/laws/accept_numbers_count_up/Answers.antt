use Rattle.rsl_rule.proofs.Numbers.{accept_numbers_are}
use Rattle.rsl_rule.proofs.laws.accept_numbers_count_up.Goals as goal

pub returns : goal.returns
returns c = accept_numbers_are
