use Rattle.std.proofs.Common.{◌≡◌, ◌++◌, take, drop, map}
use Rattle.rsl_session.specs.Saved.{saved_links}
use Rattle.rld_books.specs.Cut.{cut_link}
use Rattle.rld_books.proofs.server_books.cutting.cut_links.Given as goal

-- the links that the loop has passed are cut, and the others are as before
abbrev pub invariant-loop-link : goal.invariant-loop-link
invariant-loop-link l =
    saved_links l.links
    ≡ map (cut_link l.now) (take l.link-index (saved_links l.initial.links)) ++ drop l.link-index (saved_links l.initial.links)
