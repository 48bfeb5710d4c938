use Rattle.std.proofs.Common.{◌≡◌, length}
use Rattle.rld_values.specs.Read.{unescaped}
use Rattle.rld_values.proofs.Fronts.{onto}
use Rattle.rld_values.proofs.reading.read_escaped.Given as goal

-- what was read, and what is still to be read, are the whole
abbrev pub invariant-loop-rest : goal.invariant-loop-rest
invariant-loop-rest l = onto l.octets.items (unescaped l.rest) ≡ unescaped l.value

abbrev pub decreases-loop-rest : goal.decreases-loop-rest
decreases-loop-rest l = length l.rest
