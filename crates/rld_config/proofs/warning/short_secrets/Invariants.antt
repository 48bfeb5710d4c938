use Rattle.std.proofs.Common.{◌≡◌, take}
use Rattle.std.specs.List.{flat_map}
use Rattle.rld_config.specs.Warning.{short_secret}
use Rattle.rld_config.proofs.warning.short_secrets.Given as goal

abbrev pub invariant-loop-number : goal.invariant-loop-number
invariant-loop-number l = l.found.items ≡ flat_map short_secret (take l.number l.config.clients)
