use Rattle.rld_page.specs.Tables.{refusal_front}
use Rattle.rld_values.proofs.Callers.{written_6}
use Rattle.rld_page.proofs.refused.write_front.Goals as goal

pub returns : goal.returns
unfolding refusal_front
returns c = λ dates are.
    written_6 _ _ _ _ _ _ _ _ _ _ _ _ _
    c.in_ok-markup.ensures (c.in_ok-moment.ensures dates are) c.in_ok-markup-2.ensures c.in_ok-write_name.ensures c.in_ok-markup-3.ensures c.in_ok-write_name-2.ensures
