use Rattle.std.proofs.Common.{List, ℕ, length}
use Rattle.rld_log.specs.Passing.{HasPassed}
use Rattle.rld_log.proofs.reading.whole_len.Given as goal

abbrev pub invariant-loop-after : goal.invariant-loop-after
invariant-loop-after l = (ps : List (List ℕ)) × HasPassed l.octets ps l.rest

abbrev pub decreases-loop-after : goal.decreases-loop-after
decreases-loop-after l = length l.rest
