use Rattle.std.proofs.Common.{◌≡◌, drop, map}
use Rattle.toml.specs.View.{view}
use Rattle.rld_config.specs.Passed.{name_among}
use Rattle.rld_config.proofs.passed.name_among.Given as goal

abbrev pub invariant-loop-table : goal.invariant-loop-table
invariant-loop-table l = name_among l.part (map view l.tables) ≡ name_among l.part (map view (drop l.table-index l.tables))
