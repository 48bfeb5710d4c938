use Rattle.std.proofs.Common.{arith, inl, length, List, ap}
use Rattle.rsl_wire.specs.Attributes.{Attribute}
use Rattle.rsl_wire.proofs.attributes.Attrs.count.Goals as goal

pub count-requires-clause-fits : goal.count-requires-clause-fits
count-requires-clause-fits c = inl (omega (arith, ap (λ (l : List Attribute). length l) c.filter.ensures.source, c.iter.ensures.few))
