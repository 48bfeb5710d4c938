use Rattle.rsl_steps.proofs.Words.{words_alike}
use Rattle.rsl_steps.proofs.laws.equal_own_events_are_answered_alike.Goals as goal

pub returns : goal.returns
returns c = words_alike
