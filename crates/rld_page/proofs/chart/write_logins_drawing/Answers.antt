use Rattle.rld_page.specs.Chart.{logins_drawing}
use Rattle.rld_values.proofs.Callers.{written_8}
use Rattle.rld_page.proofs.chart.write_logins_drawing.Goals as goal

pub returns : goal.returns
unfolding logins_drawing
returns c =
    written_8 _ _ _ _ _ _ _ _ _ _ _ _ _ _ _ _ _
    c.in_ok-markup.ensures c.in_ok-markup-2.ensures c.in_ok-markup-3.ensures c.in_ok-number.ensures c.in_ok-markup-4.ensures c.in_ok-write_rules.ensures c.in_ok-write_bars.ensures c.in_ok-markup-5.ensures
