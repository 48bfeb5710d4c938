use Rattle.std.proofs.Common.{◌++◌, take}
use Rattle.std.specs.Fmt.{decimal}
use Rattle.std.specs.Io.KnownBytes.{Appends}
use Rattle.std.specs.List.{flat_map}
use Rattle.rsl_record.specs.Table.{column, name_column}
use Rattle.rsl_record.proofs.table.write_line.Given as goal

-- the name and the numbers so far are written
abbrev pub invariant-loop-number : goal.invariant-loop-number
invariant-loop-number g l =
    Appends (g.W.Write.contents l.fn.writer) (g.W.Write.contents l.writer)
    (name_column l.name ++ flat_map (λ n. column (decimal n)) (take l.number-index l.numbers))
