use Rattle.rld_page.specs.Tables.{account_row}
use Rattle.rld_values.proofs.Callers.{written_6}
use Rattle.rld_page.proofs.accounts.write_account.Goals as goal

pub returns : goal.returns
unfolding account_row
returns c =
    written_6 _ _ _ _ _ _ _ _ _ _ _ _ _
    c.in_ok-write_account_front.ensures c.in_ok-write_name.ensures c.in_ok-markup.ensures c.in_ok-write_name-2.ensures
    c.in_ok-write_cells.ensures c.in_ok-markup-2.ensures
