use Rattle.std.proofs.Common.{◌≡◌, ◌++◌, take}
use Rattle.std.specs.List.{flat_map}
use Rattle.rld_page.specs.Tables.{account_row}
use Rattle.rld_page.proofs.accounts.write_rows.Given as goal

-- the rows of the accounts that were looked at
abbrev pub invariant-loop-account : goal.invariant-loop-account
invariant-loop-account l = l.html ≡ l.fn.html ++ flat_map account_row (take l.account-index l.accounts)
