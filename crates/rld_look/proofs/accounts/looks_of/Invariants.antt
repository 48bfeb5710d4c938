use Rattle.std.proofs.Common.{◌≡◌, ◌++◌, drop}
use Rattle.rld_look.specs.Accounts.{looks_of}
use Rattle.rld_look.proofs.accounts.looks_of.Given as goal

abbrev pub invariant-loop-row : goal.invariant-loop-row
invariant-loop-row l = looks_of l.config l.rows ≡ l.looks.items ++ looks_of l.config (drop l.row-index l.rows)
