use Rattle.std.proofs.Common.{◌≡◌, take}
use Rattle.std.specs.List.{flat_map}
use Rattle.rld_config.specs.Warning.{unsigned_address}
use Rattle.rld_config.proofs.warning.unsigned_addresses.Given as goal

abbrev pub invariant-loop-number : goal.invariant-loop-number
invariant-loop-number l = l.found.items ≡ flat_map unsigned_address (take l.number l.config.clients)
