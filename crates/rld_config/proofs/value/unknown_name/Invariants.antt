use Rattle.std.proofs.Common.{◌≡◌}
use Rattle.toml.specs.View.{view}
use Rattle.rld_config.specs.Value.{unknown_in}
use Rattle.rld_config.proofs.Names.{unknown_name}
use Rattle.rld_config.proofs.value.unknown_name.Given as goal

abbrev pub invariant-loop-name : goal.invariant-loop-name
invariant-loop-name l = unknown_in l.part (view l.table) ≡ unknown_name l.part l.name-iterator
