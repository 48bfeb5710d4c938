use Rattle.rld_page.specs.Chart.{held_at}
use Rattle.rld_values.proofs.Callers.{written_7}
use Rattle.rld_page.proofs.chart.write_held_touch.Goals as goal

pub returns : goal.returns
unfolding held_at
returns c =
    written_7 _ _ _ _ _ _ _ _ _ _ _ _ _ _ _
    c.in_ok-markup.ensures (rw c.saturating_add.ensures at c.in_ok-clock.ensures) c.in_ok-markup-2.ensures c.in_ok-number.ensures c.in_ok-markup-3.ensures c.in_ok-write_touch.ensures c.in_ok-markup-4.ensures
