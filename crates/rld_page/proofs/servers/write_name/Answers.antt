use Rattle.rld_page.specs.Tables.{server_front}
use Rattle.rld_values.proofs.Callers.{written_5}
use Rattle.rld_page.proofs.servers.write_name.Goals as goal

pub returns : goal.returns
unfolding server_front
returns c =
    written_5 _ _ _ _ _ _ _ _ _ _ _
    c.in_ok-markup.ensures c.in_ok-address.ensures c.in_ok-markup-2.ensures c.in_ok-nas.ensures c.in_ok-markup-3.ensures
