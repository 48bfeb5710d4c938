use Rattle.std.proofs.Common.{◌≡◌, ◌+◌, ◌++◌, drop, length}
use Rattle.rld_page.specs.Chart.{bars_of}
use Rattle.rld_page.proofs.chart.write_bars.Given as goal

-- what is written, and what is left of it
abbrev pub invariant-loop-minute : goal.invariant-loop-minute
invariant-loop-minute l = record {
  written : l.fn.html ++ bars_of l.most l.minutes ≡ l.html ++ bars_of l.most (drop l.minute-index l.minutes);
  from_here : l.left + l.minute-index ≡ length l.minutes;
}
