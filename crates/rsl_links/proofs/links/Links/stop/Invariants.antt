use Rattle.std.proofs.Common.{length}
use Rattle.rsl_session.specs.BookLinks.{is_link_of}
use Rattle.rsl_links.proofs.Yielding.{AreLeft}
use Rattle.rsl_links.proofs.links.Links.stop.Given as goal

abbrev pub invariant-loop-at : goal.invariant-loop-at
invariant-loop-at l = AreLeft (is_link_of (record { nas = l.nas; id = l.id })) l.servers l.initial.self l.self

abbrev pub decreases-loop-at : goal.decreases-loop-at
decreases-loop-at l = length l.self.list.items
