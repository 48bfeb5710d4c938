use Rattle.rld_text.specs.Metrics.{states_text}
use Rattle.rld_values.proofs.Callers.{written_5}
use Rattle.rld_text.proofs.gauges.push_states.Goals as goal

pub returns : goal.returns
unfolding states_text
returns c =
    written_5 _ _ _ _ _ _ _ _ _ _ _
    c.in_ok-push_head.ensures c.in_ok-push_state_line.ensures c.in_ok-push_state_line-2.ensures c.in_ok-push_state_line-3.ensures c.in_ok-push_over.ensures
