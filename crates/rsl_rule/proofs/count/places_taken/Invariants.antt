use Rattle.std.proofs.Common.{◌≡◌, ◌+◌, drop}
use Rattle.rsl_session.specs.Places.{places_of}
use Rattle.rsl_rule.proofs.Counted.{places_left}
use Rattle.rsl_rule.proofs.count.places_taken.Given as goal

abbrev pub invariant-loop-at : goal.invariant-loop-at
invariant-loop-at l = l.places + places_left l.ports l.bundles (drop l.at l.bundles) ≡ places_of l.ports l.bundles
