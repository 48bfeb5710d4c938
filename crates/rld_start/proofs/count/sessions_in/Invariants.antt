use Rattle.std.proofs.Common.{◌≡◌, ◌<◌, ◌^◌, take}
use Rattle.rld_start.specs.Counted.{sessions_in}
use Rattle.rld_start.proofs.count.sessions_in.Given as goal

-- the sessions of the rows that were looked at, unless they are too many
abbrev pub invariant-loop-row : goal.invariant-loop-row
invariant-loop-row l =
    sessions_in (take l.row-index l.rows) < 2 ^ 64 → l.sessions ≡ sessions_in (take l.row-index l.rows)
