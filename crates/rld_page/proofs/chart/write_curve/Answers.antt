use Rattle.rld_page.specs.Chart.{curve_of}
use Rattle.rld_values.proofs.Callers.{written_5}
use Rattle.rld_page.proofs.chart.write_curve.Goals as goal

pub returns : goal.returns
unfolding curve_of
returns c =
    written_5 _ _ _ _ _ _ _ _ _ _ _
    c.in_ok-markup.ensures c.in_ok-write_area.ensures c.in_ok-markup-2.ensures c.in_ok-write_points.ensures c.in_ok-markup-3.ensures
