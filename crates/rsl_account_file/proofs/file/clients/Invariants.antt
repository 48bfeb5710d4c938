use Rattle.std.proofs.Common.{◌≡◌, Ok, map, take}
use Rattle.toml.specs.View.{view}
use Rattle.rsl_account_file.specs.File.{each, client_in}
use Rattle.rsl_account_file.proofs.file.clients.Given as goal

abbrev pub invariant-loop-table : goal.invariant-loop-table
invariant-loop-table l = record {
  read : each (client_in l.version) (map view (take l.table-index l.tables)) ≡ Ok l.clients.items;
}
