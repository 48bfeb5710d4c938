use Rattle.std.proofs.Common.{◌≡◌, drop}
use Rattle.rld_counts.specs.Fates.{causes_at}
use Rattle.rld_look.specs.History.{came_after, came_to}
use Rattle.rld_look.proofs.history.Came.after.Given as goal

-- the causes that are left come to what was found
abbrev pub invariant-loop-cause : goal.invariant-loop-cause
invariant-loop-cause l =
    came_to l.counts l.gate l.fn.self ≡ came_after l.counts l.gate l.came (drop l.cause-index (causes_at l.gate))
