use Rattle.rsl_session.specs.Rule.{past_of}
use Rattle.rsl_rule.proofs.Returned.{finds_its_place}
use Rattle.rsl_rule.proofs.laws.stations_find_their_place.Goals as goal

pub returns : goal.returns
returns c = λ rules events event asked left. finds_its_place rules (past_of rules events) event asked left
