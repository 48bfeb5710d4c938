use Rattle.std.proofs.Common.{◌≡◌, ◌<◌, ◌^◌, ◌++◌, drop}
use Rattle.rld_folder.specs.Older.{excess, octets_in}
use Rattle.rld_folder.proofs.older.excess.Given as goal

-- what is left is what was not looked at, and of that the rest goes
abbrev pub invariant-loop-log : goal.invariant-loop-log
invariant-loop-log l =
    octets_in l.logs < 2 ^ 64
    → (l.left ≡ octets_in (drop l.log-index l.logs))
    × (excess l.limit l.logs ≡ l.gone.items ++ excess l.limit (drop l.log-index l.logs))
