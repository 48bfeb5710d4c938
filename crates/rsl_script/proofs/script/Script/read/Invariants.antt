use Rattle.std.proofs.Common.{length}
use Rattle.rsl_script.specs.Script.{contents}
use Rattle.rsl_script.specs.Words.{text_lines}
use Rattle.rsl_script.proofs.Taken.{Stands}
use Rattle.rsl_script.proofs.script.Script.read.Given as goal

abbrev pub invariant-loop-index : goal.invariant-loop-index
invariant-loop-index l = Stands (text_lines l.fn.text) (length l.yielded) (contents l.script)
