use Rattle.rld_page.specs.Tables.{server_row}
use Rattle.rld_values.proofs.Callers.{written_4}
use Rattle.rld_page.proofs.servers.write_server.Goals as goal

pub returns : goal.returns
unfolding server_row
returns c = λ dates are.
    written_4 _ _ _ _ _ _ _ _ _
    c.in_ok-write_name.ensures c.in_ok-write_number.ensures c.in_ok-write_more.ensures (c.in_ok-write_touch.ensures dates are)
