use Rattle.std.proofs.Common.{◌≡◌, map, take}
use Rattle.rld_spelling.specs.Tables.{account_row}
use Rattle.rld_start.proofs.changing.has_same_accounts.Given as goal

-- the accounts that were looked at
abbrev pub invariant-loop-number : goal.invariant-loop-number
invariant-loop-number l = map account_row (take l.number l.old.accounts) ≡ map account_row (take l.number l.new.accounts)
