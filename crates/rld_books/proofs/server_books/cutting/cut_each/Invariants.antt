use Rattle.std.proofs.Common.{◌≡◌, ◌++◌, take, drop, map}
use Rattle.rsl_session.specs.Saved.{saved_book}
use Rattle.rld_books.specs.Cut.{cut_book}
use Rattle.rld_books.proofs.server_books.cutting.cut_each.Given as goal

-- the books that the loop has passed are cut, and the others are as before
abbrev pub invariant-loop-index : goal.invariant-loop-index
invariant-loop-index l =
    map saved_book l.kept
    ≡ map (cut_book l.now) (take l.index (map saved_book l.initial.kept)) ++ drop l.index (map saved_book l.initial.kept)
