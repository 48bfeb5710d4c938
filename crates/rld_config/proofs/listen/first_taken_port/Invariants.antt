use Rattle.std.proofs.Common.{◌≡◌, [], take, drop}
use Rattle.rld_config.specs.Server.{first_taken, taken_port}
use Rattle.rld_config.proofs.listen.first_taken_port.Given as goal

abbrev pub invariant-loop-number : goal.invariant-loop-number
invariant-loop-number l = first_taken taken_port [] l.tables ≡ first_taken taken_port (take l.number l.tables) (drop l.number l.tables)
