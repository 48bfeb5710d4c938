use Rattle.std.proofs.Common.{arith}
use Rattle.rsl_wire.proofs.AttributeLaws.{length-attributes_in}
use Rattle.rsl_wire.proofs.attributes.Attrs.iter.Goals as goal

pub returns-clause-few : goal.returns-clause-few
returns-clause-few c = omega (arith, length-attributes_in c.self.inside.rest.now c.self.invariant)
