use Rattle.rld_page.specs.Page.{title_of}
use Rattle.rld_values.proofs.Callers.{written_7}
use Rattle.rld_page.proofs.document.write_title.Goals as goal

pub returns : goal.returns
unfolding title_of
returns c =
    written_7 _ _ _ _ _ _ _ _ _ _ _ _ _ _ _
    c.in_ok-write_warning.ensures c.in_ok-grouped.ensures c.in_ok-markup.ensures c.in_ok-grouped-2.ensures c.in_ok-markup-2.ensures c.in_ok-markup-3.ensures c.in_ok-markup-4.ensures
