use Rattle.std.proofs.Common.{arith}
use Rattle.rld_spelling.proofs.Callers.{front_found, front_only}
use Rattle.rld_spelling.specs.Headers.{header_field}
use Rattle.rld_spelling.proofs.HeaderLaws.{header_read}
use Rattle.rld_spelling.proofs.header.Header.read_front.Goals as goal

pub returns-clause-found : goal.returns-clause-found
returns-clause-found c = front_found header_field header_read c.args.octets.now c.read_at_front.result (λ i. omega (arith, c.type_inv.octets i)) c.read_at_front.ensures

pub returns-clause-only : goal.returns-clause-only
returns-clause-only c = λ x rest fits e. front_only header_field header_read c.args.octets.now c.read_at_front.result c.read_at_front.ensures x rest fits e
