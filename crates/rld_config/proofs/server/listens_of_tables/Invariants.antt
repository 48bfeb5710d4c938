use Rattle.std.proofs.Common.{◌≡◌, ◌+◌, map, drop, length}
use Rattle.toml.specs.View.{view}
use Rattle.rld_config.specs.Server.{each, listen_in}
use Rattle.rld_config.proofs.Parts.{behind}
use Rattle.rld_config.proofs.server.listens_of_tables.Given as goal

abbrev pub invariant-loop-number : goal.invariant-loop-number
invariant-loop-number l = record {
  read : each listen_in 1 (map view l.tables) ≡ behind l.listens.items (each listen_in (l.number + 1) (map view (drop l.number l.tables)));
  number : length l.listens.items ≡ l.number;
}
