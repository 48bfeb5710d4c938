-- How the inside of a journal is seen: its lines are in chunks, and the last may have room.
use Rattle.std.specs.Prelude.{◌≡◌, List, ◌++◌, ◌-◌, length, vec_capacity, vec_items, vec_len}
use Rattle.std.specs.List.{flat_map}
use Rattle.rsl_shard.specs.Journal.{JournalSeen}
use Rattle.rsl_shard.specs.declared.journal.Journal.TheInside.{Inside}
use Rattle.rsl_shard.specs.declared.line.Line.{Line}

abbrev pub earlier_in : Inside → List Line
earlier_in inside = flat_map vec_items inside.full.items

abbrev pub journal_seen : Inside → JournalSeen
journal_seen inside = record {
  lines = earlier_in inside ++ inside.last.items;
  room = vec_capacity inside.last - vec_len inside.last;
}

abbrev pub IsCounted : Inside → Type 0
IsCounted inside = inside.earlier ≡ length (earlier_in inside)
