use Rattle.std.proofs.Common.{sym, ◌∙◌}
use Rattle.rld_values.proofs.Fronts.{not_own, own}
use Rattle.rld_values.proofs.reading.front.Goals as goal

pub returns-then-is_between : goal.returns-then-is_between
returns-then-is_between c =
    own c.args.value.now c.in-len1-up.len_at_least c.if-octet-eq92.false (sym c.is_between.ensures ∙ c.if-is_between.true)

pub returns-else-is_between : goal.returns-else-is_between
returns-else-is_between c =
    not_own c.args.value.now c.in-len1-up.len_at_least c.if-octet-eq92.false (sym c.is_between.ensures ∙ c.if-is_between.false)
