use Rattle.rsl_service.proofs.Reported.{AreFirst}
use Rattle.rsl_service.proofs.report.rows_of_none.Given as goal

-- there are the rows of the accounts so far
abbrev pub invariant-loop-account : goal.invariant-loop-account
invariant-loop-account l = AreFirst l.config.accounts l.account l.rows.items
