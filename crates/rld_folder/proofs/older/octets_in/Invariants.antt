use Rattle.std.proofs.Common.{◌≡◌, ◌<◌, ◌^◌, take}
use Rattle.rld_folder.specs.Older.{octets_in}
use Rattle.rld_folder.proofs.older.octets_in.Given as goal

-- those of the logs that were looked at, unless they are too many
abbrev pub invariant-loop-log : goal.invariant-loop-log
invariant-loop-log l =
    octets_in (take l.log-index l.logs) < 2 ^ 64 → l.octets ≡ octets_in (take l.log-index l.logs)
