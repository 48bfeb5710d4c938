use Rattle.rld_page.specs.Tables.{servers_table}
use Rattle.rld_values.proofs.Callers.{written_3}
use Rattle.rld_page.proofs.servers.write_table.Goals as goal

pub returns : goal.returns
unfolding servers_table
returns c = λ dates are.
    written_3 _ _ _ _ _ _ _
    c.in_ok-write_front.ensures (c.in_ok-write_rows.ensures dates are) c.in_ok-write_end.ensures
