use Rattle.std.proofs.Common.{[]}
use Rattle.rld_counts.proofs.Rows.{said_by}
use Rattle.rld_counts.specs.Fates.{words_of}
use Rattle.rld_counts.specs.declared.cause.TheConstants.{TABLE}
use Rattle.rld_counts.proofs.cause.Cause.words.Goals as goal

pub returns : goal.returns
unfolding words_of
returns c =
    said_by TABLE.now (λ row. row.3.now) (λ row. row.3.now) [] c.rows.result.now c.number.result _ _
    c.rows.ensures.words c.rows.ensures.len c.number.ensures.below c.number.ensures.number
