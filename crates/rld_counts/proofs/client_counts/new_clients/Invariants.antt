use Rattle.std.proofs.Common.{◌≡◌, [], length}
use Rattle.rld_counts.specs.Cell.{AreCounted}
use Rattle.rld_counts.proofs.client_counts.new_clients.Given as goal

abbrev pub invariant-loop : goal.invariant-loop
invariant-loop l = record {
  len : length l.each.items ≡ l.counter;
  none : AreCounted [] l.each.items;
}
