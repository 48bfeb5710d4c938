use Rattle.rsl_service.proofs.Ruling.{closed_obey}
use Rattle.rsl_service.proofs.laws.closed_journals_obey_the_rule.Goals as goal

pub returns : goal.returns
returns c = closed_obey c.journals_obey_the_rule.ensures
