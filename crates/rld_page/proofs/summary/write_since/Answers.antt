use Rattle.rld_page.specs.Summary.{since_text}
use Rattle.rld_values.proofs.Callers.{written_3}
use Rattle.rld_page.proofs.summary.write_since.Goals as goal

pub returns : goal.returns
unfolding since_text
returns c = λ dates are.
    written_3 _ _ _ _ _ _ _
    c.in_ok-markup.ensures (c.in_ok-date.ensures dates are) c.in_ok-markup-2.ensures
