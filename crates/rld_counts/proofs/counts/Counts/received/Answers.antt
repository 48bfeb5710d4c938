use Rattle.std.proofs.Common.{◌∙◌}
use Rattle.rld_counts.proofs.Counting.{counts_sum}
use Rattle.rld_counts.proofs.counts.Counts.received.Goals as goal

pub returns-clause-noted : goal.returns-clause-noted
returns-clause-noted c = λ ends was.
    c.sum.ensures ∙ counts_sum ends c.self.inside.counters (c.self.view_is ∙ was)
