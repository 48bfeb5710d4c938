use Rattle.std.proofs.Common.{take}
use Rattle.rsl_session.proofs.Callers.{places_after-le}
use Rattle.rsl_rule.proofs.laws.places_stay_within_the_limit.Goals as goal

pub returns : goal.returns
returns c = λ rules events n fit. places_after-le rules (take n events) fit
