use Rattle.std.proofs.Common.{◌≡◌, drop}
use Rattle.rld_networks.specs.Networks.{first_longest, network_of}
use Rattle.rld_networks.proofs.finding.network_of.Given as goal

abbrev pub invariant-loop-network : goal.invariant-loop-network
invariant-loop-network l = network_of l.networks l.address ≡ first_longest l.found (network_of (drop l.network-index l.networks) l.address)
