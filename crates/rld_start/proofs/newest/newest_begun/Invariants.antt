use Rattle.std.proofs.Common.{All}
use Rattle.rld_start.specs.Founds.{IsPassed}
use Rattle.rld_start.proofs.newest.newest_begun.Given as goal

-- each log that is not below the one that was looked at last was passed over
abbrev pub invariant-loop : goal.invariant-loop
invariant-loop g l = All (IsPassed l.later l.passed.items) l.names
