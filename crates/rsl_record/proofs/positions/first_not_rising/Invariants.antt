use Rattle.std.proofs.Common.{ℕ, ◌+◌, ◌<◌}
use Rattle.std.specs.Prelude.{slice_index}
use Rattle.rsl_record.proofs.positions.first_not_rising.Given as goal

-- the positions so far rise
abbrev pub invariant-loop-at : goal.invariant-loop-at
invariant-loop-at l = (k : ℕ) → k + 1 < l.at → slice_index l.positions k < slice_index l.positions (k + 1)
