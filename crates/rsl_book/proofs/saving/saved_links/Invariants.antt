use Rattle.std.proofs.Common.{◌≡◌, map, take}
use Rattle.rsl_links.specs.Seen.{link_seen}
use Rattle.rsl_session.specs.Saved.{saved_link}
use Rattle.rsl_book.proofs.saving.saved_links.Given as goal

abbrev pub invariant-loop-at : goal.invariant-loop-at
invariant-loop-at l = map saved_link l.saved.items ≡ map (link_seen l.servers) (take l.at l.links.items)
