-- What a program prints at its end.
use Rattle.std.specs.Prelude.{ℕ, List, ◌++◌, string_bytes}
use Rattle.rsl_record.specs.declared.output.Output.{Output}

-- the octets that are printed: the lines, and then the report
abbrev pub output_octets : Output → List ℕ
output_octets output = string_bytes output.lines ++ output.report.items
