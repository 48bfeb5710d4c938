use Rattle.rld_page.specs.Chart.{bar_of}
use Rattle.rld_values.proofs.Callers.{written_6}
use Rattle.rld_page.proofs.chart.write_bar.Goals as goal

pub returns : goal.returns
unfolding bar_of
returns c =
    written_6 _ _ _ _ _ _ _ _ _ _ _ _ _
    c.in_ok-markup.ensures c.in_ok-write_minute.ensures c.in_ok-markup-2.ensures c.in_ok-write_stack.ensures c.in_ok-write_touch.ensures c.in_ok-markup-3.ensures
