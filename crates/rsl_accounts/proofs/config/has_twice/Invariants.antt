use Rattle.std.proofs.Common.{◌≡◌, take, false}
use Rattle.rsl_accounts.specs.Configuration.{comes_twice, addresses}
use Rattle.rsl_accounts.proofs.config.has_twice.Given as goal

abbrev pub invariant-loop-number : goal.invariant-loop-number
invariant-loop-number l = comes_twice (addresses (take l.number l.clients)) ≡ false
