use Rattle.std.proofs.lemmas.Result.{err_from_is_err_and}
use Rattle.rld_spelling.specs.Lists.{values_at}
use Rattle.rld_spelling.proofs.Callers.{front_all, front_fault}
use Rattle.rld_spelling.specs.TableSpelled.{account_at}
use Rattle.rld_spelling.proofs.table.read_account_count.Goals as goal

pub returns-in_err-account : goal.returns-in_err-account
returns-in_err-account c =
    let p = err_from_is_err_and c.from_residual.result c.from_residual.ensures.1 in
    rw (p.1, p.2) (front_fault c.in_err-account.field-0.0 (account_at) (c.loop.accounts.items) c.args.count c.loop.counter _ _ c.loop-test.true c.in_err-account.ensures c.loop.invariant)

pub returns : goal.returns
returns c = front_all (account_at) (c.loop.accounts.items) c.args.count c.loop.counter c.loop.reader (values_at (account_at) c.args.count c.args.reader.now) c.loop-test.false c.loop.invariant
