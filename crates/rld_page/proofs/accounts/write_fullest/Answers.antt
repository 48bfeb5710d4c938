use Rattle.rld_page.specs.Tables.{accounts_of}
use Rattle.rld_values.proofs.Callers.{written_3}
use Rattle.rld_page.proofs.accounts.write_fullest.Goals as goal

pub returns : goal.returns
unfolding accounts_of
returns c =
    written_3 _ _ _ _ _ _ _
    c.in_ok-write_front.ensures c.in_ok-write_rows.ensures c.in_ok-markup.ensures
