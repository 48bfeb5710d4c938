use Rattle.rld_page.specs.Tables.{causes_of}
use Rattle.rld_values.proofs.Callers.{written_5}
use Rattle.rld_page.proofs.causes.write_causes.Goals as goal

pub returns : goal.returns
unfolding causes_of
returns c =
    written_5 _ _ _ _ _ _ _ _ _ _ _
    c.in_ok-markup.ensures c.in_ok-write_gate.ensures c.in_ok-write_gate-2.ensures c.in_ok-write_asks_if_any.ensures c.in_ok-markup-2.ensures
