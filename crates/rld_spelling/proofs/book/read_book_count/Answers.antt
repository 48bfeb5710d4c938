use Rattle.std.proofs.lemmas.Result.{err_from_is_err_and}
use Rattle.rld_spelling.specs.Lists.{values_at}
use Rattle.rld_spelling.proofs.Callers.{front_all, front_fault}
use Rattle.rld_spelling.specs.Books.{book_at, books_seen}
use Rattle.rld_spelling.proofs.book.read_book_count.Goals as goal

pub returns-in_err-book : goal.returns-in_err-book
returns-in_err-book c =
    let p = err_from_is_err_and c.from_residual.result c.from_residual.ensures.1 in
    rw (p.1, p.2) (front_fault c.in_err-book.field-0.0 (book_at c.args.clients) (books_seen c.loop.books.items) c.args.count c.loop.counter _ _ c.loop-test.true c.in_err-book.ensures c.loop.invariant)

pub returns : goal.returns
returns c = front_all (book_at c.args.clients) (books_seen c.loop.books.items) c.args.count c.loop.counter c.loop.reader (values_at (book_at c.args.clients) c.args.count c.args.reader.now) c.loop-test.false c.loop.invariant
