use Rattle.std.proofs.Common.{◌++◌}
use Rattle.std.proofs.lemmas.Result.{err_from_is_err_and}
use Rattle.rsl_accounts.specs.Walk.{account_checks, common_checks, own_checks, reply_checks}
use Rattle.rsl_accounts.proofs.Faults.{checks_here}
use Rattle.rsl_accounts.proofs.entry.Entry.check.Goals as goal

pub returns-in_err-check_common : goal.returns-in_err-check_common
unfolding account_checks
returns-in_err-check_common c =
    let p = err_from_is_err_and c.from_residual.result c.from_residual.ensures.1 in
    rw (p.1, p.2)
    (checks_here (common_checks c.args.self.now ++ own_checks c.args.version c.args.self.now) (reply_checks c.args.version c.args.self.now)
    (checks_here (common_checks c.args.self.now) (own_checks c.args.version c.args.self.now) c.in_err-check_common.ensures))
