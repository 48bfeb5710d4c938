use Rattle.std.proofs.Common.{length}
use Rattle.rsl_session.specs.BookLinks.{lapses_at}
use Rattle.rsl_links.proofs.Yielding.{AreLeft}
use Rattle.rsl_links.proofs.links.Links.lapse.Given as goal

abbrev pub invariant-loop-at : goal.invariant-loop-at
invariant-loop-at l = AreLeft (lapses_at l.rules l.now) l.servers l.initial.self l.self

abbrev pub decreases-loop-at : goal.decreases-loop-at
decreases-loop-at l = length l.self.list.items
