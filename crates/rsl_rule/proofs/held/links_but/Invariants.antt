use Rattle.std.proofs.Common.{◌≡◌, take, not}
use Rattle.std.specs.Prelude.{◌==◌, filter}
use Rattle.rsl_rule.proofs.held.links_but.Given as goal

abbrev pub invariant-loop-other : goal.invariant-loop-other
invariant-loop-other l = l.others.items ≡ filter (λ other. not (other == l.but)) (take l.other-index l.links)
