use Rattle.rld_page.specs.Page.{page_of}
use Rattle.rld_values.proofs.Callers.{written_4}
use Rattle.rld_page.proofs.document.write_page.Goals as goal

pub returns : goal.returns
unfolding page_of
returns c = λ dates are.
    written_4 _ _ _ _ _ _ _ _ _
    c.in_ok-write_head.ensures (c.in_ok-write_state.ensures dates are) (c.in_ok-write_main.ensures dates are) (c.in_ok-write_foot.ensures dates are)
