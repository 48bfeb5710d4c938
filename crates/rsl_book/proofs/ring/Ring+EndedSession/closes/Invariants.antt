use Rattle.std.proofs.Common.{◌≡◌, drop}
use Rattle.std.specs.List.{list_any}
use Rattle.rsl_session.specs.Closed.{closes}
use Rattle.rsl_book.specs.Seen.{stops_seen}
use Rattle.rsl_book.proofs.ring.Ring+EndedSession.closes.Given as goal

abbrev pub invariant-loop-index : goal.invariant-loop-index
invariant-loop-index l =
    list_any (closes l.rules (record { nas = l.nas; id = l.id }) l.now) (stops_seen l.servers (drop l.index l.self.items))
    ≡ list_any (closes l.rules (record { nas = l.nas; id = l.id }) l.now) (stops_seen l.servers l.self.items)
