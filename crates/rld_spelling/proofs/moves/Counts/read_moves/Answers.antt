use Rattle.std.proofs.Common.{arith}
use Rattle.rld_spelling.proofs.Callers.{all_found, all_only}
use Rattle.rld_spelling.specs.Moves.{moves_field}
use Rattle.rld_spelling.proofs.MoveLaws.{moves_read}
use Rattle.rld_spelling.proofs.moves.Counts.read_moves.Goals as goal

pub returns-clause-found : goal.returns-clause-found
returns-clause-found c = all_found (moves_field c.args.self) (moves_read c.args.self (record { accounts = omega arith; clients = omega arith })) (λ moves. moves.items) c.args.octets.now c.read_all.result (λ i. omega (arith, c.type_inv.octets i)) c.read_all.ensures

pub returns-clause-only : goal.returns-clause-only
returns-clause-only c = λ x fits e. all_only (moves_field c.args.self) (moves_read c.args.self (record { accounts = omega arith; clients = omega arith })) (λ moves. moves.items) c.args.octets.now c.read_all.result c.read_all.ensures x fits e
