use Rattle.rld_page.specs.Tables.{count_row}
use Rattle.rld_values.proofs.Callers.{written_5}
use Rattle.rld_page.proofs.causes.write_cause.Goals as goal

pub returns : goal.returns
unfolding count_row
returns c =
    written_5 _ _ _ _ _ _ _ _ _ _ _
    c.in_ok-markup.ensures (rw c.words.ensures at c.in_ok-markup-2.ensures) c.in_ok-markup-3.ensures c.in_ok-grouped.ensures c.in_ok-markup-4.ensures
