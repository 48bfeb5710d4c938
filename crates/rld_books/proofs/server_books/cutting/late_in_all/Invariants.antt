use Rattle.std.proofs.Common.{◌≡◌, ◌<◌, ◌^◌, map, sum_by, take}
use Rattle.rsl_session.specs.Saved.{saved_book}
use Rattle.rld_books.specs.Cut.{late_in}
use Rattle.rld_books.proofs.server_books.cutting.late_in_all.Given as goal

-- those of the books that were looked at, unless they are too many
abbrev pub invariant-loop-book : goal.invariant-loop-book
invariant-loop-book l =
    sum_by (late_in l.now) (take l.book-index (map saved_book l.kept)) < 2 ^ 64
    → l.count ≡ sum_by (late_in l.now) (take l.book-index (map saved_book l.kept))
