use Rattle.rld_page.specs.Chart.{point_of}
use Rattle.rld_values.proofs.Callers.{written_4}
use Rattle.rld_page.proofs.chart.write_point.Goals as goal

pub returns : goal.returns
unfolding point_of
returns c =
    written_4 _ _ _ _ _ _ _ _ _
    c.in_ok-number.ensures c.in_ok-markup.ensures (rw (c.saturating_sub.ensures, c.share.ensures.share) at c.in_ok-number-2.ensures) c.in_ok-markup-2.ensures
