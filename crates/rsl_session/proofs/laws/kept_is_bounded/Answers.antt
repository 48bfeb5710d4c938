use Rattle.rsl_session.proofs.BookKeeps.{step_keeps}
use Rattle.rsl_session.proofs.laws.kept_is_bounded.Goals as goal

pub returns : goal.returns
returns c rules book event asks stops = step_keeps rules book event asks stops
