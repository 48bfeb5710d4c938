use Rattle.rld_page.specs.Tables.{sockets_table}
use Rattle.rld_values.proofs.Callers.{written_5}
use Rattle.rld_page.proofs.sockets.write_table.Goals as goal

pub returns : goal.returns
unfolding sockets_table
returns c =
    written_5 _ _ _ _ _ _ _ _ _ _ _
    c.in_ok-markup.ensures c.in_ok-markup-2.ensures c.in_ok-markup-3.ensures c.in_ok-write_rows.ensures c.in_ok-markup-4.ensures
