use Rattle.rld_page.specs.Tables.{more_cell}
use Rattle.rld_values.proofs.Callers.{written_3}
use Rattle.rld_page.proofs.accounts.write_more.Goals as goal

pub returns : goal.returns
unfolding more_cell
returns c =
    written_3 _ _ _ _ _ _ _
    c.in_ok-markup.ensures c.in_ok-grouped.ensures c.in_ok-markup-2.ensures
