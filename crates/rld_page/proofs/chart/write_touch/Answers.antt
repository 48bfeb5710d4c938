use Rattle.rld_page.specs.Chart.{touch_at}
use Rattle.rld_values.proofs.Callers.{written_3}
use Rattle.rld_page.proofs.chart.write_touch.Goals as goal

pub returns : goal.returns
unfolding touch_at
returns c =
    written_3 _ _ _ _ _ _ _
    c.in_ok-markup.ensures c.in_ok-number.ensures c.in_ok-markup-2.ensures
