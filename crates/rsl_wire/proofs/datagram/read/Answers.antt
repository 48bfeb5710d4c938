use Rattle.std.proofs.Common.{arith}
use Rattle.rsl_wire.proofs.ReadLaws.{found_by, only_by, short_by, bad_by}
use Rattle.rsl_wire.proofs.datagram.read.Goals as goal

pub returns-clause-found : goal.returns-clause-found
returns-clause-found c = found_by c.args.datagram.now _ (λ i. omega (arith, c.type_inv.datagram i)) c.in_datagram.ensures

pub returns-clause-only : goal.returns-clause-only
returns-clause-only c = only_by c.args.datagram.now _ c.in_datagram.ensures

pub returns-clause-short : goal.returns-clause-short
returns-clause-short c = short_by c.args.datagram.now _ c.in_datagram.ensures

pub returns-clause-bad_length : goal.returns-clause-bad_length
returns-clause-bad_length c = bad_by c.args.datagram.now _ (λ i. omega (arith, c.type_inv.datagram i)) c.in_datagram.ensures
