use Rattle.rld_page.specs.Tables.{accounts_front}
use Rattle.rld_values.proofs.Callers.{written_8}
use Rattle.rld_page.proofs.accounts.write_front.Goals as goal

pub returns : goal.returns
unfolding accounts_front
returns c =
    written_8 _ _ _ _ _ _ _ _ _ _ _ _ _ _ _ _ _
    c.in_ok-markup.ensures c.in_ok-grouped.ensures c.in_ok-markup-2.ensures c.in_ok-markup-3.ensures c.in_ok-markup-4.ensures c.in_ok-markup-5.ensures c.in_ok-markup-6.ensures c.in_ok-markup-7.ensures
