use Rattle.std.proofs.Common.{◌≡◌, map, take}
use Rattle.rld_spelling.specs.Tables.{account_row}
use Rattle.rld_books.proofs.table.accounts_of.Given as goal

abbrev pub invariant-loop-number : goal.invariant-loop-number
invariant-loop-number l = l.accounts.items ≡ map account_row (take l.number l.config.accounts)
