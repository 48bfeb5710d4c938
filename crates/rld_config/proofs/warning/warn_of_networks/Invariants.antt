use Rattle.std.proofs.Common.{◌≡◌, ◌++◌, take}
use Rattle.rld_config.specs.Warning.{network_warnings}
use Rattle.rld_config.proofs.warning.warn_of_networks.Given as goal

abbrev pub invariant-loop-network : goal.invariant-loop-network
invariant-loop-network l = l.warnings.items ≡ l.fn.warnings.items ++ network_warnings (take l.network-index l.networks)
