use Rattle.std.proofs.Common.{◌≡◌, ◌+◌, ◌≤◌, take}
use Rattle.rld_config.specs.Place.{place_after}
use Rattle.rld_config.proofs.place.Place.after.Given as goal

abbrev pub invariant-loop-octet : goal.invariant-loop-octet
invariant-loop-octet l = record {
  place : l.place ≡ place_after (take l.octet-index l.octets);
  line : l.place.line ≤ l.octet-index + 1;
  column : l.place.column ≤ l.octet-index + 1;
}
