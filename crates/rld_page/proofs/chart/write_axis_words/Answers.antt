use Rattle.rld_page.specs.Chart.{axis_words}
use Rattle.rld_values.proofs.Callers.{written_6}
use Rattle.rld_page.proofs.chart.write_axis_words.Goals as goal

pub returns : goal.returns
unfolding axis_words
returns c =
    written_6 _ _ _ _ _ _ _ _ _ _ _ _ _
    (rw c.saturating_sub.ensures at c.in_ok-clock.ensures) c.in_ok-markup.ensures c.in_ok-grouped.ensures c.in_ok-markup-2.ensures (rw c.saturating_add.ensures at c.in_ok-clock-2.ensures) c.in_ok-markup-3.ensures
