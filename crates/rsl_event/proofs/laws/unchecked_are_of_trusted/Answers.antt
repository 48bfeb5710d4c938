use Rattle.rsl_event.proofs.Untrusted.{unchecked_trusted}
use Rattle.rsl_event.proofs.laws.unchecked_are_of_trusted.Goals as goal

pub returns : goal.returns
returns c = unchecked_trusted
