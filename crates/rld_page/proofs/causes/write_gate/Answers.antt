use Rattle.rld_page.specs.Tables.{gate_table}
use Rattle.rld_values.proofs.Callers.{written_8}
use Rattle.rld_page.proofs.causes.write_gate.Goals as goal

pub returns : goal.returns
unfolding gate_table
returns c =
    written_8 _ _ _ _ _ _ _ _ _ _ _ _ _ _ _ _ _
    c.in_ok-markup.ensures c.in_ok-markup-2.ensures c.in_ok-markup-3.ensures c.in_ok-write_answers.ensures c.in_ok-write_others.ensures c.in_ok-markup-4.ensures (rw c.total_at.ensures at c.in_ok-grouped.ensures) c.in_ok-markup-5.ensures
