use Rattle.rld_page.specs.Summary.{state_of}
use Rattle.rld_values.proofs.Callers.{written_5}
use Rattle.rld_page.proofs.summary.write_state.Goals as goal

pub returns : goal.returns
unfolding state_of
returns c = λ dates are.
    written_5 _ _ _ _ _ _ _ _ _ _ _
    c.in_ok-markup.ensures c.in_ok-write_recording.ensures c.in_ok-write_clock.ensures (c.in_ok-write_since.ensures dates are) c.in_ok-write_written.ensures
