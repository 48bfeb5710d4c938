use Rattle.std.proofs.Common.{arith}
use Rattle.rld_spelling.proofs.Callers.{all_found, all_only}
use Rattle.rld_spelling.specs.TableSpelled.{table_field, table_seen}
use Rattle.rld_spelling.proofs.TableSpelledLaws.{table_read}
use Rattle.rld_spelling.proofs.table.Table.read.Goals as goal

pub returns-clause-found : goal.returns-clause-found
returns-clause-found c = all_found (table_field) (table_read) table_seen c.args.octets.now c.read_all.result (λ i. omega (arith, c.type_inv.octets i)) c.read_all.ensures

pub returns-clause-only : goal.returns-clause-only
returns-clause-only c = λ x fits e. all_only (table_field) (table_read) table_seen c.args.octets.now c.read_all.result c.read_all.ensures x fits e
