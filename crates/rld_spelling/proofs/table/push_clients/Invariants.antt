use Rattle.std.proofs.Common.{◌≡◌, ◌++◌, length, take}
use Rattle.std.specs.List.{flat_map}
use Rattle.rld_spelling.specs.Numbers.{number_octets}
use Rattle.rld_spelling.specs.TableSpelled.{client_octets}
use Rattle.rld_spelling.proofs.table.push_clients.Given as goal

abbrev pub invariant-loop-client : goal.invariant-loop-client
invariant-loop-client l =
    l.out.items ≡ l.fn.out.items ++ (number_octets (length l.clients) ++ flat_map client_octets (take l.client-index l.clients))
