use Rattle.std.proofs.Common.{Ok, arith}
use Rattle.rsl_wire.specs.Attributes.{attributes_in}
use Rattle.rsl_wire.proofs.AttributeLaws.{found_by}
use Rattle.rsl_wire.proofs.attributes.Attrs.in_formed_octets.Goals as goal

pub returns-clause-found : goal.returns-clause-found
returns-clause-found c = found_by c.args.octets.now (Ok (attributes_in c.args.octets.now)) (λ i. omega (arith, c.type_inv.octets i)) c.requires
