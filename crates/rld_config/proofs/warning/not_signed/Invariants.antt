use Rattle.std.proofs.Common.{◌≡◌, map, take}
use Rattle.rld_config.specs.declared.warning.Warning.TheVariants.{NotSigned}
use Rattle.rld_config.proofs.warning.not_signed.Given as goal

abbrev pub invariant-loop-address : goal.invariant-loop-address
invariant-loop-address l = l.warnings.items ≡ map NotSigned (take l.address-index l.address-items)
