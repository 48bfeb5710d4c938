use Rattle.std.proofs.Common.{take, All}
use Rattle.rld_spelling.specs.TableSpelled.{account_field}
use Rattle.rld_spelling.proofs.table.accounts_fit.Given as goal

abbrev pub invariant-loop-account : goal.invariant-loop-account
invariant-loop-account l = All (account_field.Fits) (take l.account-index l.accounts)
