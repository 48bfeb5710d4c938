use Rattle.rld_page.specs.Summary.{places_text}
use Rattle.rld_values.proofs.Callers.{written_7}
use Rattle.rld_page.proofs.summary.write_places.Goals as goal

pub returns : goal.returns
unfolding places_text
returns c =
    written_7 _ _ _ _ _ _ _ _ _ _ _ _ _ _ _
    c.in_ok-markup.ensures c.in_ok-grouped.ensures c.in_ok-markup-2.ensures c.in_ok-grouped-2.ensures c.in_ok-markup-3.ensures (rw c.share.ensures.share at c.in_ok-write_width.ensures) c.in_ok-markup-4.ensures
