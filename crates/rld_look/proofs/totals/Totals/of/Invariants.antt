use Rattle.std.proofs.Common.{◌≡◌, drop}
use Rattle.rld_look.specs.Accounts.{looks_of}
use Rattle.rld_look.specs.Totals.{totals_after, totals_of}
use Rattle.rld_look.proofs.totals.Totals.of.Given as goal

abbrev pub invariant-loop-row : goal.invariant-loop-row
invariant-loop-row l = totals_of (looks_of l.config l.rows) ≡ totals_after l.totals (looks_of l.config (drop l.row-index l.rows))
