use Rattle.rld_page.specs.Chart.{logins_with}
use Rattle.rld_values.proofs.Callers.{written_6}
use Rattle.rld_page.proofs.chart.write_logins.Goals as goal

pub returns : goal.returns
unfolding logins_with
returns c =
    written_6 _ _ _ _ _ _ _ _ _ _ _ _ _
    c.in_ok-markup.ensures c.in_ok-markup-2.ensures c.in_ok-markup-3.ensures c.in_ok-markup-4.ensures c.in_ok-write_logins_drawing.ensures c.in_ok-write_axis.ensures
