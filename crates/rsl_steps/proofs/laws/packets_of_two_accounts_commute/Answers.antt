use Rattle.rsl_steps.proofs.Commuting.{packets_commute}
use Rattle.rsl_steps.proofs.laws.packets_of_two_accounts_commute.Goals as goal

pub returns : goal.returns
returns c = packets_commute
