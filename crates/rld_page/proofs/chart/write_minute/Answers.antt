use Rattle.rld_page.specs.Chart.{minute_words}
use Rattle.rld_values.proofs.Callers.{written_8}
use Rattle.rld_page.proofs.chart.write_minute.Goals as goal

pub returns : goal.returns
unfolding minute_words
returns c =
    written_8 _ _ _ _ _ _ _ _ _ _ _ _ _ _ _ _ _
    c.in_ok-clock.ensures c.in_ok-markup.ensures c.in_ok-number.ensures c.in_ok-markup-2.ensures c.in_ok-number-2.ensures c.in_ok-markup-3.ensures c.in_ok-number-3.ensures c.in_ok-markup-4.ensures
