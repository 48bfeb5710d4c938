use Rattle.std.proofs.Common.{◌∙◌}
use Rattle.rld_counts.proofs.Rows.{kind_is, said_by}
use Rattle.rld_counts.specs.declared.cause.TheConstants.{TABLE}
use Rattle.rld_counts.specs.declared.kind.Kind.TheVariants as kinds
use Rattle.rld_counts.proofs.cause.Cause.kind.Goals as goal

pub returns : goal.returns
returns c =
    said_by TABLE.now (λ row. row.1) (λ row. row.1) kinds.Failed c.rows.result.now c.number.result _ _
    c.rows.ensures.kinds c.rows.ensures.len c.number.ensures.below c.number.ensures.number ∙ kind_is c.args.self
