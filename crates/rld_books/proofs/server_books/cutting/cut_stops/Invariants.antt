use Rattle.std.proofs.Common.{◌≡◌, ◌++◌, take, drop, map}
use Rattle.rld_books.specs.Cut.{cut_stop}
use Rattle.rld_books.proofs.server_books.cutting.cut_stops.Given as goal

-- the stops that the loop has passed are cut, and the others are as before
abbrev pub invariant-loop-stop : goal.invariant-loop-stop
invariant-loop-stop l =
    l.stops ≡ map (cut_stop l.now) (take l.stop-index l.initial.stops) ++ drop l.stop-index l.initial.stops
