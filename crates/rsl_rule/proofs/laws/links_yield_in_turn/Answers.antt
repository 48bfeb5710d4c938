use Rattle.std.proofs.Common.{◌++◌, ◌∷◌, []}
use Rattle.rsl_session.specs.Rule.{past_of}
use Rattle.rsl_session.proofs.Callers.{places_after-le}
use Rattle.rsl_rule.proofs.Yielded.{yielded_is}
use Rattle.rsl_rule.proofs.laws.links_yield_in_turn.Goals as goal

pub returns : goal.returns
returns c = λ rules events event number link fit is. (
  yielded_is rules (past_of rules events) event number link is,
  places_after-le rules (events ++ event ∷ []) fit,
)
