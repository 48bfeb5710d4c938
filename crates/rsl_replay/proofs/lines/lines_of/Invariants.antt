use Rattle.rsl_replay.specs.Lines.{printed_lines}
use Rattle.rsl_replay.proofs.LineLaws.{IsLeft}
use Rattle.std.specs.String.{string_bytes}
use Rattle.rsl_replay.proofs.lines.lines_of.Given as goal

abbrev pub invariant-loop-index : goal.invariant-loop-index
invariant-loop-index l = IsLeft l.config l.lines l.index l.rest (printed_lines l.config l.lines l.answers) (string_bytes l.text)
