use Rattle.std.proofs.Common.{◌≡◌, take}
use Rattle.rsl_links.specs.Seen.{links_seen}
use Rattle.rsl_book.proofs.same.has_same_links.Given as goal

abbrev pub invariant-loop-at : goal.invariant-loop-at
invariant-loop-at l = take l.at (links_seen l.servers l.links.items) ≡ take l.at (links_seen l.other_servers l.other_links.items)
