use Rattle.std.proofs.Common.{◌-◌, arith}
use Rattle.rsl_book.proofs.PutBack.{ask_put}
use Rattle.rsl_book.proofs.book.Book.put_asks.Goals as goal

pub loop-index-preserved : goal.loop-index-preserved
loop-index-preserved c =
    let some = c.loop-index-test.true in
    let within = c.loop-index.auto.index in
    ask_put c.args.self.now c.loop-index.self c.put_ask.new.self c.args.saved.now c.loop-index.index (c.loop-index.index - 1) c.index-saved-index.result (omega arith) (omega arith)
    c.requires.few c.index-saved-index.is c.loop-index.invariant c.in_ok-put_ask.ensures
