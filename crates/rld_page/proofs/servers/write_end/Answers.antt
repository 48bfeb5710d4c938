use Rattle.rld_page.specs.Tables.{servers_end}
use Rattle.rld_values.proofs.Callers.{written_5}
use Rattle.rld_page.proofs.servers.write_end.Goals as goal

pub returns : goal.returns
unfolding servers_end
returns c =
    written_5 _ _ _ _ _ _ _ _ _ _ _
    c.in_ok-markup.ensures c.in_ok-markup-2.ensures c.in_ok-markup-3.ensures c.in_ok-write_rest.ensures c.in_ok-markup-4.ensures
