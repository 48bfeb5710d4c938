use Rattle.rld_text.specs.Metrics.{held_text}
use Rattle.rld_values.proofs.Callers.{written_2}
use Rattle.rld_text.proofs.gauges.push_held.Goals as goal

pub returns : goal.returns
unfolding held_text
returns c =
    written_2 _ _ _ _ _ c.in_ok-push_holdings.ensures c.in_ok-push_states.ensures
