use Rattle.std.proofs.Common.{arith}
use Rattle.rsl_wire.proofs.AttributeLaws.{found_by, only_by, bad_by}
use Rattle.rsl_wire.proofs.attributes.Attrs.in_octets.Goals as goal

pub returns-clause-found : goal.returns-clause-found
returns-clause-found c = found_by c.args.octets.now _ (λ i. omega (arith, c.type_inv.octets i)) c.checked.ensures

pub returns-clause-only : goal.returns-clause-only
returns-clause-only c = only_by c.args.octets.now _ c.checked.ensures

pub returns-clause-bad : goal.returns-clause-bad
returns-clause-bad c = bad_by c.args.octets.now _ (λ i. omega (arith, c.type_inv.octets i)) c.checked.ensures
