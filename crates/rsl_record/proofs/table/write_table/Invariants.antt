use Rattle.std.proofs.Common.{◌++◌, take}
use Rattle.std.specs.Io.KnownBytes.{Appends}
use Rattle.std.specs.List.{flat_map}
use Rattle.rsl_record.specs.Table.{header, row_line}
use Rattle.rsl_record.proofs.table.write_table.Given as goal

-- the lines of the rows so far are written
abbrev pub invariant-loop-row : goal.invariant-loop-row
invariant-loop-row g l =
    Appends (g.W.Write.contents l.fn.writer) (g.W.Write.contents l.writer)
    (header ++ flat_map (row_line l.config) (take l.row-index l.rows))
