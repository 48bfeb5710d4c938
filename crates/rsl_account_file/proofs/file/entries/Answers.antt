use Rattle.std.proofs.lemmas.Result.{err_from_is_err_and}
use Rattle.rsl_account_file.specs.File.{entry_in}
use Rattle.rsl_account_file.proofs.Parts.{part_fails}
use Rattle.rsl_account_file.proofs.file.entries.Goals as goal

pub returns-in_err-entry-clause-fault : goal.returns-in_err-entry-clause-fault
returns-in_err-entry-clause-fault c =
    let p = err_from_is_err_and c.from_residual-in_err-entry.result c.from_residual-in_err-entry.ensures.1 in
    rw (p.1, p.2)
    (λ other. part_fails (entry_in c.args.version c.args.shared.now) c.args.tables.now c.loop-table.table-index c.table-item.result c.loop-table-test.true c.table-item.is c.loop-table.entries.items c.loop-table.invariant.read c.in_err-entry.field-0.0 (c.in_err-entry.ensures.fault other))
