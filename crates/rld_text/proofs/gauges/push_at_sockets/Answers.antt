use Rattle.rld_text.specs.Metrics.{at_sockets}
use Rattle.rld_values.proofs.Callers.{written_2}
use Rattle.rld_text.proofs.gauges.push_at_sockets.Goals as goal

pub returns : goal.returns
unfolding at_sockets
returns c =
    written_2 _ _ _ _ _ c.in_ok-push_gauge.ensures c.in_ok-push_dropped.ensures
