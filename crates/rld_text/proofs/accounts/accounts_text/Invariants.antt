use Rattle.std.proofs.Common.{◌≡◌, take}
use Rattle.std.specs.List.{flat_map}
use Rattle.rld_text.specs.Accounts.{text_if_selected}
use Rattle.rld_text.proofs.accounts.accounts_text.Given as goal

-- the lines of the accounts that were written
abbrev pub invariant-loop-account : goal.invariant-loop-account
invariant-loop-account l = l.text.items ≡ flat_map (text_if_selected l.form l.selection) (take l.account-index l.accounts)
