use Rattle.std.proofs.Common.{arith}
use Rattle.rsl_book.proofs.PutBack.{fits}
use Rattle.rsl_book.proofs.book.Book.open_fit.Goals as goal

pub returns : goal.returns
returns c =
    let stored = c.stored-stored.ensures in
    let asks = stored.kept in
    let few_asks = stored.few_kept in
    let stops = stored.closed in
    let few_stops = stored.few_closed in
    fits c.args.self.now.rules c.args.self.now.book (omega arith) (omega arith) c.open_invariant.ensures.limit
