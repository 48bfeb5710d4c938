use Rattle.rld_page.specs.Summary.{written_text}
use Rattle.rld_values.proofs.Callers.{written_6}
use Rattle.rld_page.proofs.summary.write_written.Goals as goal

pub returns : goal.returns
unfolding written_text
returns c =
    written_6 _ _ _ _ _ _ _ _ _ _ _ _ _
    c.in_ok-markup.ensures c.in_ok-markup-2.ensures c.in_ok-number.ensures c.in_ok-markup-3.ensures c.in_ok-grouped.ensures c.in_ok-markup-4.ensures
