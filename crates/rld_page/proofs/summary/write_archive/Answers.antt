use Rattle.rld_page.specs.Summary.{archive_row}
use Rattle.rld_values.proofs.Callers.{written_5}
use Rattle.rld_page.proofs.summary.write_archive.Goals as goal

pub returns : goal.returns
unfolding archive_row
returns c =
    written_5 _ _ _ _ _ _ _ _ _ _ _
    c.in_ok-markup.ensures c.in_ok-grouped.ensures c.in_ok-markup-2.ensures c.in_ok-grouped-2.ensures c.in_ok-markup-3.ensures
