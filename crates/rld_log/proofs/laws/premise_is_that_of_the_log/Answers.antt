use Rattle.rld_log.proofs.Steps.{detects_more}
use Rattle.rld_log.proofs.laws.premise_is_that_of_the_log.Goals as goal

pub returns : goal.returns
returns g c = detects_more g.L.Log.tears c.kills_are_detected.ensures
