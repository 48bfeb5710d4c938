use Rattle.std.proofs.Common.{◌≡◌, List, take}
use Rattle.rld_counts.specs.declared.counted.Counted.{Counted}
use Rattle.rld_counts.specs.Reading.{HaveCounted, counts_in}
use Rattle.rld_counts.specs.declared.reading.Reading.{Reading}
use Rattle.rld_counts.proofs.reading.counts_of.Given as goal

abbrev pub invariant-loop-reading : goal.invariant-loop-reading
invariant-loop-reading l =
    (had : Reading → List Counted) → HaveCounted had l.readings → l.all ≡ counts_in had (take l.reading-index l.readings)
