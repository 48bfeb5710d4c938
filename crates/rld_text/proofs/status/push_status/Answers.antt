use Rattle.rld_text.specs.Status.{status_of}
use Rattle.rld_values.proofs.Callers.{written_7}
use Rattle.rld_text.proofs.status.push_status.Goals as goal

pub returns : goal.returns
unfolding status_of
returns c = λ dates are.
    written_7 _ _ _ _ _ _ _ _ _ _ _ _ _ _ _
    c.in_ok-push_build_line.ensures (c.in_ok-push_start.ensures dates are) c.in_ok-push_recording.ensures c.in_ok-push_clock.ensures c.in_ok-push_numbers.ensures c.in_ok-push_recent.ensures c.in_ok-push_end.ensures
