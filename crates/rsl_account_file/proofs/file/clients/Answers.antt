use Rattle.std.proofs.lemmas.Result.{err_from_is_err_and}
use Rattle.rsl_account_file.specs.File.{client_in}
use Rattle.rsl_account_file.proofs.Parts.{part_fails}
use Rattle.rsl_account_file.proofs.file.clients.Goals as goal

pub returns-in_err-client-clause-fault : goal.returns-in_err-client-clause-fault
returns-in_err-client-clause-fault c =
    let p = err_from_is_err_and c.from_residual-in_err-client.result c.from_residual-in_err-client.ensures.1 in
    rw (p.1, p.2)
    (λ other. part_fails (client_in c.args.version) c.args.tables.now c.loop-table.table-index c.table-item.result c.loop-table-test.true c.table-item.is c.loop-table.clients.items c.loop-table.invariant.read c.in_err-client.field-0.0 (c.in_err-client.ensures.fault other))
