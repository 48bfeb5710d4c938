use Rattle.std.proofs.Common.{◌≡◌, List, length, take}
use Rattle.rld_counts.specs.Cell.{HasCounted}
use Rattle.rld_counts.specs.declared.counted.Counted.{Counted}
use Rattle.rld_counts.specs.Reading.{HaveCounted, all_of}
use Rattle.rld_counts.specs.declared.reading.Reading.{Reading}
use Rattle.rld_counts.proofs.reading.cell_of.Given as goal

abbrev pub invariant-loop-reading : goal.invariant-loop-reading
invariant-loop-reading l = record {
  counted : (had : Reading → List Counted) → HaveCounted had l.readings
      → HasCounted (all_of l.gate l.clients had (take l.reading-index l.readings)) l.all;
  clients : length l.all.clients ≡ l.clients;
}
