use Rattle.std.proofs.Common.{◌≡◌}
use Rattle.toml.specs.View.{view}
use Rattle.rld_config.specs.Passed.{name_in}
use Rattle.rld_config.proofs.PassedNames.{first_name}
use Rattle.rld_config.proofs.passed.name_in.Given as goal

abbrev pub invariant-loop-name : goal.invariant-loop-name
invariant-loop-name l = name_in l.part (view l.table) ≡ first_name l.part l.name-iterator
