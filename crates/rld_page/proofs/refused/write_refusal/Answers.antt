use Rattle.rld_values.proofs.Callers.{written_2}
use Rattle.rld_page.proofs.refused.write_refusal.Goals as goal

pub returns : goal.returns
returns c = λ dates are.
    written_2 _ _ _ _ _
    (c.in_ok-write_front.ensures dates are) c.in_ok-write_end.ensures
