use Rattle.rld_text.specs.Metrics.{bucket_line}
use Rattle.rld_values.proofs.Callers.{written_7}
use Rattle.rld_text.proofs.times.push_bucket.Goals as goal

pub returns : goal.returns
unfolding bucket_line
returns c =
    written_7 _ _ _ _ _ _ _ _ _ _ _ _ _ _ _
    c.in_ok-push_text.ensures c.in_ok-push_label.ensures c.in_ok-push_text-2.ensures c.in_ok-push_seconds.ensures c.in_ok-push_text-3.ensures c.in_ok-push_decimal.ensures c.in_ok-push_text-4.ensures
