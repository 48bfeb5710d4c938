use Rattle.std.proofs.Common.{◌≡◌, map, take}
use Rattle.rsl_rule.specs.declared.holding.HeldLink.{HeldLink}
use Rattle.rsl_rule.proofs.held.numbers_of.Given as goal

abbrev pub invariant-loop-one : goal.invariant-loop-one
invariant-loop-one l = l.links.items ≡ map (λ (one : HeldLink). one.link) (take l.one-index l.held)
