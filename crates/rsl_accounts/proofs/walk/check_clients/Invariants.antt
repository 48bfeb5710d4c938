use Rattle.std.proofs.Common.{◌≡◌, drop}
use Rattle.std.specs.List.{flat_map}
use Rattle.rsl_accounts.specs.Walk.{client_checks, first_fault}
use Rattle.rsl_accounts.proofs.walk.check_clients.Given as goal

abbrev pub invariant-loop-client : goal.invariant-loop-client
invariant-loop-client l =
    first_fault (flat_map (client_checks l.version) l.clients) ≡ first_fault (flat_map (client_checks l.version) (drop l.client-index l.clients))
