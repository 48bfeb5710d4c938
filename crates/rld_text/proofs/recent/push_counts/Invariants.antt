use Rattle.std.proofs.Common.{◌≡◌, ◌++◌, drop}
use Rattle.rld_counts.specs.Fates.{causes_at}
use Rattle.rld_text.specs.Recent.{counts_from}
use Rattle.rld_text.proofs.recent.push_counts.Given as goal

-- what is written, and what is left of it
abbrev pub invariant-loop-cause : goal.invariant-loop-cause
invariant-loop-cause l =
    l.fn.out.items ++ counts_from l.first l.counts l.gate (causes_at l.gate)
    ≡ l.out.items ++ counts_from l.column l.counts l.gate (drop l.cause-index (causes_at l.gate))
