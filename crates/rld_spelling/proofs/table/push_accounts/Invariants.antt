use Rattle.std.proofs.Common.{◌≡◌, ◌++◌, length, take}
use Rattle.std.specs.List.{flat_map}
use Rattle.rld_spelling.specs.Numbers.{number_octets}
use Rattle.rld_spelling.specs.TableSpelled.{account_octets}
use Rattle.rld_spelling.proofs.table.push_accounts.Given as goal

abbrev pub invariant-loop-account : goal.invariant-loop-account
invariant-loop-account l =
    l.out.items ≡ l.fn.out.items ++ (number_octets (length l.accounts) ++ flat_map account_octets (take l.account-index l.accounts))
