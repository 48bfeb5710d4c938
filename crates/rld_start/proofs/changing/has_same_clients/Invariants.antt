use Rattle.std.proofs.Common.{◌≡◌, map, take}
use Rattle.rld_spelling.specs.Tables.{client_row}
use Rattle.rld_start.proofs.changing.has_same_clients.Given as goal

-- the clients that were looked at
abbrev pub invariant-loop-number : goal.invariant-loop-number
invariant-loop-number l = map client_row (take l.number l.old.clients) ≡ map client_row (take l.number l.new.clients)
