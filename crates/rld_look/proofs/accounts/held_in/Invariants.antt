use Rattle.std.proofs.Common.{◌≡◌, drop}
use Rattle.rld_look.specs.Accounts.{held_after, held_in}
use Rattle.rld_look.proofs.accounts.held_in.Given as goal

abbrev pub invariant-loop-row : goal.invariant-loop-row
invariant-loop-row l = held_in l.rows ≡ held_after l.held (drop l.row-index l.rows)
