use Rattle.std.proofs.Common.{◌≡◌, ◌++◌, length, take}
use Rattle.std.specs.List.{flat_map}
use Rattle.rld_spelling.specs.Numbers.{number_octets}
use Rattle.rld_spelling.specs.Books.{kept_stop_octets}
use Rattle.rld_spelling.proofs.book.push_stops.Given as goal

abbrev pub invariant-loop-stop : goal.invariant-loop-stop
invariant-loop-stop l =
    l.out.items ≡ l.fn.out.items ++ (number_octets (length l.stops) ++ flat_map kept_stop_octets (take l.stop-index l.stops))
