use Rattle.rld_page.specs.Tables.{servers_front}
use Rattle.rld_values.proofs.Callers.{written_7}
use Rattle.rld_page.proofs.servers.write_front.Goals as goal

pub returns : goal.returns
unfolding servers_front
returns c =
    written_7 _ _ _ _ _ _ _ _ _ _ _ _ _ _ _
    c.in_ok-markup.ensures c.in_ok-grouped.ensures c.in_ok-markup-2.ensures c.in_ok-markup-3.ensures c.in_ok-markup-4.ensures c.in_ok-markup-5.ensures c.in_ok-markup-6.ensures
