use Rattle.std.proofs.Common.{◌≡◌, map, take}
use Rattle.rsl_accounts.specs.Configuration.{client_number}
use Rattle.rsl_accounts.specs.declared.client.Client.{Client}
use Rattle.rld_books.proofs.clients.next_numbers.Given as goal

-- the numbers of the clients that were looked at
abbrev pub invariant-loop-number : goal.invariant-loop-number
invariant-loop-number l = l.numbers.items ≡ map (λ (client : Client). client_number l.new client.address) (take l.number l.old.clients)
