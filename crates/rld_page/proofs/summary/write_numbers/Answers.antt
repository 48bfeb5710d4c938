use Rattle.rld_page.specs.Summary.{numbers_of}
use Rattle.rld_values.proofs.Callers.{written_6}
use Rattle.rld_page.proofs.summary.write_numbers.Goals as goal

pub returns : goal.returns
unfolding numbers_of
returns c =
    written_6 _ _ _ _ _ _ _ _ _ _ _ _ _
    c.in_ok-markup.ensures c.in_ok-write_places.ensures c.in_ok-write_latest.ensures c.in_ok-markup-2.ensures c.in_ok-write_archive.ensures c.in_ok-markup-3.ensures
