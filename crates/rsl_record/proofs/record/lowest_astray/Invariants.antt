use Rattle.std.proofs.Common.{◌++◌, List, take}
use Rattle.rsl_record.specs.Faults.{IsLowestAstray}
use Rattle.rsl_shard.specs.declared.segment.Segment.{Segment}
use Rattle.rsl_record.proofs.record.lowest_astray.Given as goal

abbrev pub invariant-loop-segment : goal.invariant-loop-segment
invariant-loop-segment l =
    (before : List Segment) → IsLowestAstray l.shards before l.fn.found → IsLowestAstray l.shards (before ++ take l.segment-index l.segments) l.lowest
