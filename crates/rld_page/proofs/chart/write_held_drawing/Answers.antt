use Rattle.rld_page.specs.Chart.{held_drawing}
use Rattle.rld_values.proofs.Callers.{written_9}
use Rattle.rld_page.proofs.chart.write_held_drawing.Goals as goal

pub returns : goal.returns
unfolding held_drawing
returns c =
    written_9 _ _ _ _ _ _ _ _ _ _ _ _ _ _ _ _ _ _ _
    c.in_ok-markup.ensures c.in_ok-markup-2.ensures c.in_ok-markup-3.ensures c.in_ok-number.ensures c.in_ok-markup-4.ensures c.in_ok-write_rules.ensures c.in_ok-write_curve_if_any.ensures c.in_ok-write_touches.ensures c.in_ok-markup-5.ensures
