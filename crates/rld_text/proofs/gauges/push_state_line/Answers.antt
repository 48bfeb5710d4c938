use Rattle.rld_text.specs.Metrics.{state_line}
use Rattle.rld_values.proofs.Callers.{written_5}
use Rattle.rld_text.proofs.gauges.push_state_line.Goals as goal

pub returns : goal.returns
unfolding state_line
returns c =
    written_5 _ _ _ _ _ _ _ _ _ _ _
    c.in_ok-push_text.ensures c.in_ok-push_label.ensures c.in_ok-push_text-2.ensures c.in_ok-push_decimal.ensures c.in_ok-push_text-3.ensures
