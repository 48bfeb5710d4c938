use Rattle.rld_page.specs.Page.{foot_of}
use Rattle.rld_values.proofs.Callers.{written_5}
use Rattle.rld_page.proofs.document.write_foot.Goals as goal

pub returns : goal.returns
unfolding foot_of
returns c = λ dates are.
    written_5 _ _ _ _ _ _ _ _ _ _ _
    c.in_ok-markup.ensures (c.in_ok-date.ensures dates are) c.in_ok-markup-2.ensures c.in_ok-markup-3.ensures c.in_ok-markup-4.ensures
