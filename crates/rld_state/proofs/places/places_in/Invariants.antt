use Rattle.std.proofs.Common.{◌≡◌, drop}
use Rattle.rld_state.specs.Places.{places_in}
use Rattle.rld_state.proofs.places.places_in.Given as goal

-- the rows that were looked at are other accounts'
abbrev pub invariant-loop-row : goal.invariant-loop-row
invariant-loop-row l = places_in l.account l.rows ≡ places_in l.account (drop l.row-index l.rows)
