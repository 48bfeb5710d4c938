use Rattle.rld_text.specs.Metrics.{writing}
use Rattle.rld_values.proofs.Callers.{written_3}
use Rattle.rld_text.proofs.gauges.push_writing.Goals as goal

pub returns : goal.returns
unfolding writing
returns c =
    written_3 _ _ _ _ _ _ _
    c.in_ok-push_gauge.ensures c.in_ok-push_gauge-2.ensures c.in_ok-push_gauge-3.ensures
