use Rattle.rld_page.specs.Summary.{rates_text}
use Rattle.rld_values.proofs.Callers.{written_3}
use Rattle.rld_page.proofs.summary.write_rates.Goals as goal

pub returns : goal.returns
unfolding rates_text
returns c =
    written_3 _ _ _ _ _ _ _
    c.in_ok-write_rate.ensures (rw c.rejects.ensures at c.in_ok-write_rate-2.ensures) c.in_ok-write_rate-3.ensures
