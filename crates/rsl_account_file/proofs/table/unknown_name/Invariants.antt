use Rattle.std.proofs.Common.{◌≡◌}
use Rattle.toml.specs.View.{view}
use Rattle.rsl_account_file.specs.File.{unknown_in}
use Rattle.rsl_account_file.proofs.Names.{unknown_name}
use Rattle.rsl_account_file.proofs.table.unknown_name.Given as goal

abbrev pub invariant-loop-name : goal.invariant-loop-name
invariant-loop-name l = unknown_in l.part (view l.table) ≡ unknown_name l.part l.name-iterator
