use Rattle.rld_text.specs.Recent.{minute_line}
use Rattle.rld_values.proofs.Callers.{written_9}
use Rattle.rld_text.proofs.recent.push_minute.Goals as goal

pub returns : goal.returns
unfolding minute_line
returns c =
    written_9 _ _ _ _ _ _ _ _ _ _ _ _ _ _ _ _ _ _ _
    c.in_ok-push_span.ensures c.in_ok-push_rate.ensures c.in_ok-push_text.ensures c.in_ok-push_rate-2.ensures c.in_ok-push_text-2.ensures c.in_ok-push_rate-3.ensures c.in_ok-push_text-3.ensures c.in_ok-push_rate-4.ensures c.in_ok-push_text-4.ensures
