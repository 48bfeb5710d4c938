use Rattle.std.proofs.Common.{take, All}
use Rattle.rld_spelling.specs.TableSpelled.{ClientFits}
use Rattle.rld_spelling.proofs.table.clients_have_spelling.Given as goal

abbrev pub invariant-loop-client : goal.invariant-loop-client
invariant-loop-client l = All ClientFits (take l.client-index l.clients)
