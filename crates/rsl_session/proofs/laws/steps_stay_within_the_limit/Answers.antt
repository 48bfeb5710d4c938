use Rattle.rsl_session.proofs.BookBound.{step_within}
use Rattle.rsl_session.proofs.laws.steps_stay_within_the_limit.Goals as goal

pub returns : goal.returns
returns c rules book event fit within = step_within rules book event fit within
