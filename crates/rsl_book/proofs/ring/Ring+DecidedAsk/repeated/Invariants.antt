use Rattle.std.proofs.Common.{◌≡◌, drop}
use Rattle.std.specs.Prelude.{find}
use Rattle.rsl_session.specs.Ask.{repeats}
use Rattle.rsl_book.specs.Seen.{asks_seen}
use Rattle.rsl_book.proofs.ring.Ring+DecidedAsk.repeated.Given as goal

abbrev pub invariant-loop-index : goal.invariant-loop-index
invariant-loop-index l =
    find (repeats l.rules l.key l.now) (asks_seen l.servers (drop l.index l.self.items)) ≡ find (repeats l.rules l.key l.now) (asks_seen l.servers l.self.items)
