use Rattle.std.proofs.Common.{◌≡◌, ◌++◌, map, take}
use Rattle.rsl_record.specs.Segments.{of_shard}
use Rattle.rsl_record.proofs.record.push_of_shard.Given as goal

abbrev pub invariant-loop-segment : goal.invariant-loop-segment
invariant-loop-segment l =
    map (λ segment. segment.now) l.found.items ≡ map (λ segment. segment.now) l.initial.found.items ++ of_shard l.shard (take l.segment-index l.segments)
