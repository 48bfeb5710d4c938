use Rattle.rld_page.specs.Tables.{refusal_end}
use Rattle.rld_values.proofs.Callers.{written_7}
use Rattle.rld_page.proofs.refused.write_end.Goals as goal

pub returns : goal.returns
unfolding refusal_end
returns c =
    written_7 _ _ _ _ _ _ _ _ _ _ _ _ _ _ _
    c.in_ok-markup.ensures (rw c.words.ensures at c.in_ok-markup-2.ensures) c.in_ok-markup-3.ensures c.in_ok-write_client.ensures c.in_ok-markup-4.ensures c.in_ok-write_nas.ensures c.in_ok-markup-5.ensures
