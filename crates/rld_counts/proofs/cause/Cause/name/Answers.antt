use Rattle.std.proofs.Common.{[]}
use Rattle.rld_counts.proofs.Rows.{said_by}
use Rattle.rld_counts.specs.Fates.{name_of}
use Rattle.rld_counts.specs.declared.cause.TheConstants.{TABLE}
use Rattle.rld_counts.proofs.cause.Cause.name.Goals as goal

pub returns : goal.returns
unfolding name_of
returns c =
    said_by TABLE.now (λ row. row.2.now) (λ row. row.2.now) [] c.rows.result.now c.number.result _ _
    c.rows.ensures.names c.rows.ensures.len c.number.ensures.below c.number.ensures.number
