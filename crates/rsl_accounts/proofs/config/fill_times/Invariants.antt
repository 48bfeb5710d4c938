use Rattle.std.proofs.Common.{◌≡◌, ◌++◌, take, drop, map}
use Rattle.rsl_accounts.specs.Configuration.{with_times}
use Rattle.rsl_accounts.proofs.config.fill_times.Given as goal

abbrev pub invariant-loop-account : goal.invariant-loop-account
invariant-loop-account l =
    l.account-items
    ≡ map (with_times l.settings) (take l.account-index l.fn.accounts.items) ++ drop l.account-index l.fn.accounts.items
