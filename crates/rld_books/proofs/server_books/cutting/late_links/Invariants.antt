use Rattle.std.proofs.Common.{◌≡◌, ◌+◌, ◌<◌, ◌^◌, sum_by, take}
use Rattle.rsl_session.specs.declared.saved.SavedLink.{SavedLink}
use Rattle.rld_books.specs.Cut.{late}
use Rattle.rld_books.proofs.server_books.cutting.late_links.Given as goal

-- those among the links that were looked at, unless they are too many
abbrev pub invariant-loop-link : goal.invariant-loop-link
invariant-loop-link l =
    sum_by (λ (link : SavedLink). late l.now link.opened + late l.now link.touched) (take l.link-index l.links) < 2 ^ 64
    → l.count ≡ sum_by (λ (link : SavedLink). late l.now link.opened + late l.now link.touched) (take l.link-index l.links)
