use Rattle.std.proofs.Common.{◌≡◌, ◌+◌, ◌++◌, drop, length}
use Rattle.rld_page.specs.Chart.{all_held_at}
use Rattle.rld_page.proofs.chart.write_touches.Given as goal

-- what is written, and what is left of it
abbrev pub invariant-loop-minute : goal.invariant-loop-minute
invariant-loop-minute l = record {
  written : l.fn.html ++ all_held_at l.minutes ≡ l.html ++ all_held_at (drop l.minute-index l.minutes);
  from_here : l.left + l.minute-index ≡ length l.minutes;
}
