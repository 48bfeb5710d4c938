use Rattle.std.proofs.Common.{◌≡◌, length}
use Rattle.rld_values.specs.Read.{octets_of_hex}
use Rattle.rld_values.proofs.Fronts.{onto}
use Rattle.rld_values.proofs.reading.read_hex.Given as goal

-- what was read, and what is still to be read, are the whole
abbrev pub invariant-loop-rest : goal.invariant-loop-rest
invariant-loop-rest l = onto l.octets.items (octets_of_hex l.rest) ≡ octets_of_hex l.digits

abbrev pub decreases-loop-rest : goal.decreases-loop-rest
decreases-loop-rest l = length l.rest
