use Rattle.rld_lives.proofs.Within.{histories_stay}
use Rattle.rld_lives.proofs.laws.histories_stay_within_limits.Goals as goal

pub returns : goal.returns
returns c = histories_stay c.steps_stay_within_the_limit.ensures
