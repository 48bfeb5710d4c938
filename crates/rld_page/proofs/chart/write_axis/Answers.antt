use Rattle.rld_page.specs.Chart.{axis_of}
use Rattle.rld_values.proofs.Callers.{written_3}
use Rattle.rld_page.proofs.chart.write_axis.Goals as goal

pub returns : goal.returns
unfolding axis_of
returns c =
    written_3 _ _ _ _ _ _ _
    c.in_ok-markup.ensures (rw c.last_of.ensures at c.in_ok-write_axis_if_any.ensures) c.in_ok-markup-2.ensures
