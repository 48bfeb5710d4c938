use Rattle.std.proofs.Common.{◌≡◌, ◌++◌, ℕ, List, take}
use Rattle.std.specs.List.{flat_map}
use Rattle.rld_page.specs.Tables.{server_row}
use Rattle.rld_page.proofs.servers.write_rows.Given as goal
use Rattle.rld_values.specs.Dates.{AreDates}

-- the rows of the access servers that were looked at
abbrev pub invariant-loop-server : goal.invariant-loop-server
invariant-loop-server l =
    (dates : ℕ → List ℕ) → AreDates dates
    → l.html ≡ l.fn.html ++ flat_map (server_row dates l.now) (take l.server-index l.servers)
