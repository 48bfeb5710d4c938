use Rattle.std.proofs.Common.{◌≡◌, ◌++◌, take}
use Rattle.std.specs.List.{flat_map}
use Rattle.rld_page.specs.Json.{more_json}
use Rattle.rld_page.proofs.json.push_more.Given as goal

-- the accounts that were looked at are written
abbrev pub invariant-loop-account : goal.invariant-loop-account
invariant-loop-account l = l.out.items ≡ l.fn.out.items ++ flat_map more_json (take l.account-index l.accounts)
