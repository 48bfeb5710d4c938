use Rattle.std.proofs.Common.{◌≡◌, drop, map}
use Rattle.std.specs.Prelude.{max}
use Rattle.rld_page.specs.Chart.{answered_in, greatest}
use Rattle.rld_page.proofs.chart.most_answered.Given as goal

-- the greatest is that which was found, or one of those that are left
abbrev pub invariant-loop-minute : goal.invariant-loop-minute
invariant-loop-minute l =
    greatest (map answered_in l.minutes) ≡ max l.most (greatest (map answered_in (drop l.minute-index l.minutes)))
