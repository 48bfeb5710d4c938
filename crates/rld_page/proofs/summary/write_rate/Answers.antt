use Rattle.rld_page.specs.Summary.{rate_text}
use Rattle.rld_values.proofs.Callers.{written_7}
use Rattle.rld_page.proofs.summary.write_rate.Goals as goal

pub returns : goal.returns
unfolding rate_text
returns c =
    written_7 _ _ _ _ _ _ _ _ _ _ _ _ _ _ _
    c.in_ok-markup.ensures c.in_ok-markup-2.ensures c.in_ok-markup-3.ensures (rw c.tenths.ensures at c.in_ok-write_tenths.ensures)
    c.in_ok-markup-4.ensures c.in_ok-markup-5.ensures c.in_ok-markup-6.ensures
