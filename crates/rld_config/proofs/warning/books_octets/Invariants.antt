use Rattle.std.proofs.Common.{◌≡◌, ◌*◌, ◌≤◌, take}
use Rattle.rld_config.specs.Warning.{books_octets}
use Rattle.rld_config.proofs.warning.books_octets.Given as goal

abbrev pub invariant-loop-number : goal.invariant-loop-number
invariant-loop-number l = record {
  value : l.octets ≡ books_octets (take l.number l.config.accounts);
  most : l.octets ≤ 231651 * l.number;
}
