use Rattle.std.proofs.Common.{◌≡◌, ◌≤◌, ℕ, List, ◌++◌, drop, length}
use Rattle.rld_page.specs.Tables.{refusal_rows}
use Rattle.rld_page.proofs.refused.write_rows.Given as goal
use Rattle.rld_values.specs.Dates.{AreDates}

-- the rows of those from here on
abbrev pub invariant-loop-at : goal.invariant-loop-at
invariant-loop-at l = record {
  written : (dates : ℕ → List ℕ) → AreDates dates → l.html ≡ l.fn.html ++ refusal_rows dates (drop l.at l.refusals);
  within : l.at ≤ length l.refusals;
}

abbrev pub decreases-loop-at : goal.decreases-loop-at
decreases-loop-at l = l.at
