use Rattle.std.proofs.Common.{◌≡◌, drop, map}
use Rattle.std.specs.Prelude.{max}
use Rattle.rld_page.specs.Chart.{held_at_end, greatest}
use Rattle.rld_page.proofs.chart.most_held.Given as goal

-- the greatest is that which was found, or one of those that are left
abbrev pub invariant-loop-minute : goal.invariant-loop-minute
invariant-loop-minute l =
    greatest (map held_at_end l.minutes) ≡ max l.most (greatest (map held_at_end (drop l.minute-index l.minutes)))
