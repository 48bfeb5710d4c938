use Rattle.rld_page.specs.Html.{soft_dash}
use Rattle.rld_values.proofs.Callers.{written_3}
use Rattle.rld_page.proofs.refused.write_dash.Goals as goal

pub returns : goal.returns
unfolding soft_dash
returns c =
    written_3 _ _ _ _ _ _ _
    c.in_ok-markup.ensures c.in_ok-markup-2.ensures c.in_ok-markup-3.ensures
