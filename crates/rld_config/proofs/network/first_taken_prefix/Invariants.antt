use Rattle.std.proofs.Common.{◌≡◌, [], take, drop}
use Rattle.rld_config.specs.Server.{first_taken, taken_prefix}
use Rattle.rld_config.proofs.network.first_taken_prefix.Given as goal

abbrev pub invariant-loop-number : goal.invariant-loop-number
invariant-loop-number l = first_taken taken_prefix [] l.networks ≡ first_taken taken_prefix (take l.number l.networks) (drop l.number l.networks)
