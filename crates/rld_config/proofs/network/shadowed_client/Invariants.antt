use Rattle.std.proofs.Common.{◌≡◌, drop}
use Rattle.std.specs.List.{find}
use Rattle.std.specs.Prelude.{map}
use Rattle.rld_config.specs.Server.{own_address_of, shadows}
use Rattle.rld_config.proofs.network.shadowed_client.Given as goal

abbrev pub invariant-loop-number : goal.invariant-loop-number
invariant-loop-number l =
    find (shadows l.networks) (map own_address_of l.config.clients)
    ≡ find (shadows l.networks) (map own_address_of (drop l.number l.config.clients))
