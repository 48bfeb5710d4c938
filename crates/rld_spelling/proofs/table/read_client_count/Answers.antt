use Rattle.std.proofs.lemmas.Result.{err_from_is_err_and}
use Rattle.rld_spelling.specs.Lists.{values_at}
use Rattle.rld_spelling.specs.declared.fault.ReadFault.TheVariants.{Malformed}
use Rattle.rld_spelling.proofs.Callers.{front_all, front_fault}
use Rattle.rld_spelling.specs.TableSpelled.{client_at}
use Rattle.rld_spelling.proofs.table.read_client_count.Goals as goal

pub returns-in_err-client : goal.returns-in_err-client
returns-in_err-client c =
    let p = err_from_is_err_and c.from_residual.result c.from_residual.ensures.1 in
    rw (p.1, p.2) (front_fault (Malformed c.in_err-client.field-0.0) (client_at) (c.loop.clients.items) c.args.count c.loop.counter _ _ c.loop-test.true c.in_err-client.ensures c.loop.invariant)

pub returns : goal.returns
returns c = front_all (client_at) (c.loop.clients.items) c.args.count c.loop.counter c.loop.reader (values_at (client_at) c.args.count c.args.reader.now) c.loop-test.false c.loop.invariant
