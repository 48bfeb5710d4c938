use Rattle.rld_page.specs.Page.{head_of}
use Rattle.rld_values.proofs.Callers.{written_7}
use Rattle.rld_page.proofs.document.write_head.Goals as goal

pub returns : goal.returns
unfolding head_of
returns c =
    written_7 _ _ _ _ _ _ _ _ _ _ _ _ _ _ _
    c.in_ok-markup.ensures c.in_ok-markup-2.ensures c.in_ok-markup-3.ensures c.in_ok-write_title.ensures c.in_ok-markup-4.ensures c.in_ok-markup-5.ensures c.in_ok-markup-6.ensures
