use Rattle.std.proofs.Common.{◌≡◌, take, false, map}
use Rattle.rsl_accounts.specs.Configuration.{comes_twice, names}
use Rattle.rsl_accounts.proofs.config.index_names.Given as goal

abbrev pub invariant-loop-account : goal.invariant-loop-account
invariant-loop-account l =
    (map (λ name. name.items) l.index.keys ≡ names (take l.account-index l.accounts))
    × (comes_twice (names (take l.account-index l.accounts)) ≡ false)
