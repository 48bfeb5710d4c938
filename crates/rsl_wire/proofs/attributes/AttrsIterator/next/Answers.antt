use Rattle.std.proofs.Common.{◌∙◌, sym, rules}
use Rattle.rsl_wire.proofs.AttributeLaws.{attributes_in-first, attributes_in-none}
use Rattle.rsl_wire.proofs.attributes.AttrsIterator.next.Goals as goal

pub invariant_of-self : goal.invariant_of-self
invariant_of-self c = (attributes_in-first c.self.inside.rest.now _ _ c.in-Some.ensures c.self.invariant).0

pub returns-in-Some-clause-steps : goal.returns-in-Some-clause-steps
returns-in-Some-clause-steps c = sym c.self.view_is ∙ (attributes_in-first c.self.inside.rest.now _ _ c.in-Some.ensures c.self.invariant).1

pub returns-in-Some-clause-goes : goal.returns-in-Some-clause-goes
returns-in-Some-clause-goes c =
    let more = sym c.self.view_is ∙ (attributes_in-first c.self.inside.rest.now _ _ c.in-Some.ensures c.self.invariant).1 in
    rw more (search rules)

pub returns-in-None-clause-steps : goal.returns-in-None-clause-steps
returns-in-None-clause-steps c =
    let none = sym c.self.view_is ∙ attributes_in-none c.self.inside.rest.now c.in-None.ensures c.self.invariant in
    (none, none)
