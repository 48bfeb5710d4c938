use Rattle.std.proofs.Common.{◌≡◌, drop}
use Rattle.std.specs.List.{flat_map}
use Rattle.rsl_accounts.specs.Walk.{account_checks, first_fault}
use Rattle.rsl_accounts.proofs.walk.check_accounts.Given as goal

abbrev pub invariant-loop-account : goal.invariant-loop-account
invariant-loop-account l =
    first_fault (flat_map (account_checks l.version) l.accounts) ≡ first_fault (flat_map (account_checks l.version) (drop l.account-index l.accounts))
