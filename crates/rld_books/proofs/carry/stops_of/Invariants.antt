use Rattle.std.proofs.Common.{◌≡◌, take}
use Rattle.rld_books.specs.Carried.{stops_on}
use Rattle.rld_books.specs.Numbers.{number_in}
use Rattle.rld_books.proofs.carry.stops_of.Given as goal

-- those of the stops that were looked at
abbrev pub invariant-loop-stop : goal.invariant-loop-stop
invariant-loop-stop l = l.made.items ≡ stops_on (number_in l.numbers) (take l.stop-index l.stops)
