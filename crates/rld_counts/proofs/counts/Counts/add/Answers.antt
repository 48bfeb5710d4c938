use Rattle.std.proofs.Common.{◌∙◌}
use Rattle.rld_counts.proofs.Counting.{counts_append}
use Rattle.rld_counts.proofs.counts.Counts.add.Goals as goal

pub returns-clause-joined : goal.returns-clause-joined
returns-clause-joined c = λ ends others was added.
    counts_append ends others c.self.inside.counters c.other.inside.counters c.add.new.counters
    (c.self.view_is ∙ was) (c.other.view_is ∙ added) c.add.ensures.len c.add.ensures.each
