-- The count of sessions that a start found.
use Rattle.std.specs.Prelude.{◌≡◌, ◌<◌, ◌^◌, ◌+◌, ℕ, List, sum_by}
use Rattle.rld_books.specs.Saved.{rows_in}
use Rattle.rld_books.specs.Server.{ServerSeen}
use Rattle.rsl_shard.specs.declared.row.Row.{Row}

-- the number of bound links in what accounts hold
abbrev pub sessions_in : List Row → ℕ
sessions_in rows = sum_by (λ (row : Row). row.live + row.stale) rows

-- so many sessions are counted in books, unless there are too many to count
abbrev pub AreSessionsOf : ServerSeen → (sessions : ℕ) → Type 0
AreSessionsOf books sessions =
    sessions_in (rows_in books) < 2 ^ 64 → sessions ≡ sessions_in (rows_in books)
