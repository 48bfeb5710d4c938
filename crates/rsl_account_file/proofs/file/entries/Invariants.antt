use Rattle.std.proofs.Common.{◌≡◌, Ok, map, take}
use Rattle.toml.specs.View.{view}
use Rattle.rsl_account_file.specs.File.{each, entry_in}
use Rattle.rsl_account_file.proofs.file.entries.Given as goal

abbrev pub invariant-loop-table : goal.invariant-loop-table
invariant-loop-table l = record {
  read : each (entry_in l.version l.shared) (map view (take l.table-index l.tables)) ≡ Ok l.entries.items;
}
