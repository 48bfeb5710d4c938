use Rattle.std.proofs.Common.{◌≡◌, ◌<◌, ◌^◌, sum_by, take}
use Rattle.rsl_session.specs.declared.kept.KeptStop.{KeptStop}
use Rattle.rld_books.specs.Cut.{late}
use Rattle.rld_books.proofs.server_books.cutting.late_stops.Given as goal

-- those among the stops that were looked at, unless they are too many
abbrev pub invariant-loop-stop : goal.invariant-loop-stop
invariant-loop-stop l =
    sum_by (λ (stop : KeptStop). late l.now stop.at) (take l.stop-index l.stops) < 2 ^ 64
    → l.count ≡ sum_by (λ (stop : KeptStop). late l.now stop.at) (take l.stop-index l.stops)
