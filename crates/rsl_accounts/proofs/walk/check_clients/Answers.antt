use Rattle.std.proofs.lemmas.Result.{err_from_is_err_and}
use Rattle.rsl_accounts.specs.Walk.{client_checks}
use Rattle.rsl_accounts.proofs.Faults.{checks_found}
use Rattle.rsl_accounts.proofs.walk.check_clients.Goals as goal

pub returns-in_err-check : goal.returns-in_err-check
returns-in_err-check c =
    let p = err_from_is_err_and c.from_residual.result c.from_residual.ensures.1 in
    rw (p.1, p.2)
    (checks_found (client_checks c.args.version) c.args.clients.now c.loop-client.client-index c.client-item.result c.loop-client-test.true c.client-item.is c.in_err-check.field-0.0 c.loop-client.invariant c.in_err-check.ensures)
