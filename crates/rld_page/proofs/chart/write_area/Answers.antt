use Rattle.rld_page.specs.Chart.{area_of}
use Rattle.rld_values.proofs.Callers.{written_5}
use Rattle.rld_page.proofs.chart.write_area.Goals as goal

pub returns : goal.returns
unfolding area_of
returns c =
    written_5 _ _ _ _ _ _ _ _ _ _ _
    c.in_ok-markup.ensures (rw c.left_of.ensures.left at c.in_ok-number.ensures) c.in_ok-markup-2.ensures c.in_ok-write_points.ensures c.in_ok-markup-3.ensures
