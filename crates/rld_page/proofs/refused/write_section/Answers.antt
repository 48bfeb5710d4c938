use Rattle.rld_page.specs.Tables.{refused_of}
use Rattle.rld_values.proofs.Callers.{written_2}
use Rattle.rld_page.proofs.refused.write_section.Goals as goal

pub returns : goal.returns
unfolding refused_of
returns c = λ dates are.
    written_2 _ _ _ _ _
    c.in_ok-markup.ensures (c.in_ok-write_table_if_any.ensures dates are)
