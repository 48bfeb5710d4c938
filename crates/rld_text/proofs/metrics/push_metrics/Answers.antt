use Rattle.rld_text.specs.Metrics.{metrics_text}
use Rattle.rld_values.proofs.Callers.{written_5}
use Rattle.rld_text.proofs.metrics.push_metrics.Goals as goal

pub returns : goal.returns
unfolding metrics_text
returns c =
    written_5 _ _ _ _ _ _ _ _ _ _ _
    c.in_ok-push_build_text.ensures c.in_ok-push_ends_text.ensures c.in_ok-push_times_text.ensures c.in_ok-push_numbers.ensures c.in_ok-push_servers_text.ensures
