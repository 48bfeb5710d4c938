use Rattle.rld_page.specs.Chart.{piece_text}
use Rattle.rld_values.proofs.Callers.{written_7}
use Rattle.rld_page.proofs.chart.write_piece.Goals as goal

pub returns : goal.returns
unfolding piece_text
returns c =
    written_7 _ _ _ _ _ _ _ _ _ _ _ _ _ _ _
    c.in_ok-markup.ensures c.in_ok-number.ensures c.in_ok-markup-2.ensures (rw c.saturating_sub.ensures at c.in_ok-number-2.ensures) c.in_ok-markup-3.ensures (rw c.saturating_sub-2.ensures at c.in_ok-number-3.ensures) c.in_ok-markup-4.ensures
