use Rattle.rld_page.specs.Tables.{left_out_words}
use Rattle.rld_values.proofs.Callers.{written_3}
use Rattle.rld_page.proofs.servers.write_left_out.Goals as goal

pub returns : goal.returns
unfolding left_out_words
returns c =
    written_3 _ _ _ _ _ _ _
    c.in_ok-markup.ensures c.in_ok-grouped.ensures c.in_ok-markup-2.ensures
