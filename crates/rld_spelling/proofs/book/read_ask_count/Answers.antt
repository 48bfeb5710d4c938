use Rattle.std.proofs.lemmas.Result.{err_from_is_err_and}
use Rattle.rld_spelling.specs.Lists.{values_at}
use Rattle.rld_spelling.proofs.Callers.{front_all, front_fault}
use Rattle.rld_spelling.specs.Books.{kept_ask_at}
use Rattle.rld_spelling.proofs.book.read_ask_count.Goals as goal

pub returns-in_err-ask : goal.returns-in_err-ask
returns-in_err-ask c =
    let p = err_from_is_err_and c.from_residual.result c.from_residual.ensures.1 in
    rw (p.1, p.2) (front_fault c.in_err-ask.field-0.0 (kept_ask_at c.args.clients) (c.loop.asks.items) c.args.count c.loop.counter _ _ c.loop-test.true c.in_err-ask.ensures c.loop.invariant)

pub returns : goal.returns
returns c = front_all (kept_ask_at c.args.clients) (c.loop.asks.items) c.args.count c.loop.counter c.loop.reader (values_at (kept_ask_at c.args.clients) c.args.count c.args.reader.now) c.loop-test.false c.loop.invariant
