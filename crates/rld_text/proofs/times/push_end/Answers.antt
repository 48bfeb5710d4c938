use Rattle.rld_text.specs.Metrics.{times_end}
use Rattle.rld_values.proofs.Callers.{written_9}
use Rattle.rld_text.proofs.times.push_end.Goals as goal

pub returns : goal.returns
unfolding times_end
returns c =
    written_9 _ _ _ _ _ _ _ _ _ _ _ _ _ _ _ _ _ _ _
    c.in_ok-push_text.ensures c.in_ok-push_label.ensures c.in_ok-push_text-2.ensures c.in_ok-push_seconds.ensures c.in_ok-push_text-3.ensures c.in_ok-push_label-2.ensures c.in_ok-push_text-4.ensures c.in_ok-push_decimal.ensures c.in_ok-push_text-5.ensures
