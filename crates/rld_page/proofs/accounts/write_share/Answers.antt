use Rattle.rld_page.specs.Tables.{share_cell}
use Rattle.rld_values.proofs.Callers.{written_3}
use Rattle.rld_page.proofs.accounts.write_share.Goals as goal

pub returns : goal.returns
unfolding share_cell
returns c =
    written_3 _ _ _ _ _ _ _
    c.in_ok-markup.ensures (rw c.share.ensures.share at c.in_ok-write_width.ensures) c.in_ok-markup-2.ensures
