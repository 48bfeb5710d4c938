use Rattle.rld_page.specs.Summary.{behind_mark}
use Rattle.rld_values.proofs.Callers.{written_3}
use Rattle.rld_page.proofs.summary.write_behind.Goals as goal

pub returns : goal.returns
unfolding behind_mark
returns c =
    written_3 _ _ _ _ _ _ _
    c.in_ok-markup.ensures c.in_ok-grouped.ensures c.in_ok-markup-2.ensures
