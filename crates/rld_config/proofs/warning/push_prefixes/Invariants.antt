use Rattle.std.proofs.Common.{◌≡◌, ◌++◌, take}
use Rattle.std.specs.List.{flat_map}
use Rattle.rld_config.specs.Warning.{unsigned_prefix}
use Rattle.rld_config.proofs.warning.push_prefixes.Given as goal

abbrev pub invariant-loop-network : goal.invariant-loop-network
invariant-loop-network l = l.found.items ≡ l.fn.found.items ++ flat_map (unsigned_prefix l.config) (take l.network-index l.networks)
