use Rattle.std.proofs.Common.{◌≡◌, map, take}
use Rattle.rld_spelling.specs.Tables.{client_row}
use Rattle.rld_books.proofs.table.clients_of.Given as goal

abbrev pub invariant-loop-number : goal.invariant-loop-number
invariant-loop-number l = l.clients.items ≡ map client_row (take l.number l.config.clients)
