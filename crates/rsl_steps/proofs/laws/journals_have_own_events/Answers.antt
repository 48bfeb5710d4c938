use Rattle.rsl_steps.proofs.OwnMoves.{own-journal}
use Rattle.rsl_steps.proofs.Restepped.{restepped}
use Rattle.rsl_steps.proofs.laws.journals_have_own_events.Goals as goal

pub returns : goal.returns
returns c = let x = restepped in own-journal
