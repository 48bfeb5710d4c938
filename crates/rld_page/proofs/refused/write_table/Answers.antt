use Rattle.rld_page.specs.Tables.{refused_table}
use Rattle.rld_values.proofs.Callers.{written_5}
use Rattle.rld_page.proofs.refused.write_table.Goals as goal

pub returns : goal.returns
unfolding refused_table
returns c = λ dates are.
    written_5 _ _ _ _ _ _ _ _ _ _ _
    c.in_ok-markup.ensures c.in_ok-markup-2.ensures c.in_ok-markup-3.ensures (c.in_ok-write_rows.ensures dates are) c.in_ok-markup-4.ensures
