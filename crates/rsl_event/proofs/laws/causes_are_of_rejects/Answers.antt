use Rattle.rsl_event.proofs.Rejecting.{meaning_cause}
use Rattle.rsl_event.proofs.laws.causes_are_of_rejects.Goals as goal

pub returns : goal.returns
returns c = meaning_cause
