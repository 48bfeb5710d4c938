use Rattle.rld_page.specs.Chart.{held_with}
use Rattle.rld_values.proofs.Callers.{written_4}
use Rattle.rld_page.proofs.chart.write_held.Goals as goal

pub returns : goal.returns
unfolding held_with
returns c =
    written_4 _ _ _ _ _ _ _ _ _
    c.in_ok-markup.ensures c.in_ok-markup-2.ensures c.in_ok-write_held_drawing.ensures c.in_ok-write_axis.ensures
