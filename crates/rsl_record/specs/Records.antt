-- The segments of a server's record.
use Rattle.std.specs.Prelude.{List, ◌++◌}
use Rattle.rsl_record.specs.declared.record.Record.{Record}
use Rattle.rsl_shard.specs.declared.segment.Segment.{Segment}

-- the segments that were handed out, in the order given, and then the present journals
abbrev pub segments_of : Record → List Segment
segments_of journals = journals.given.now ++ journals.present.now
