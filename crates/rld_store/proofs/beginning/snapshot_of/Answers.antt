use Rattle.std.proofs.lemmas.List.Elements.{All-nil}
use Rattle.rld_spelling.specs.Books.{book_field}
use Rattle.rld_spelling.specs.Numbers.{number_octets}
use Rattle.std.proofs.Common.{arith, length, refl}
use Rattle.rld_store.proofs.Fronts.{fit_all, fit_more, octets_all, octets_begun, octets_more}
use Rattle.rld_store.proofs.beginning.snapshot_of.Goals as goal

pub loop-book-init : goal.loop-book-init
loop-book-init c = record {
  spelled = octets_begun c.args.books.now c.new-octets.result.items c.push_number.new.out.items (length c.args.books.now) c.new-octets.ensures.items refl c.in_ok-push_number.ensures;
  fit = All-nil (book_field c.args.clients).Fits;
}

pub loop-book-preserved : goal.loop-book-preserved
loop-book-preserved c = record {
  spelled = octets_more c.args.books.now c.loop-book.book-index c.book-item.result (number_octets (length c.args.books.now)) c.loop-book.octets.items c.push_book.new.out.items c.loop-book-test.true c.book-item.is
      c.loop-book.invariant.spelled c.in_ok-push_book.ensures.spelled;
  fit = fit_more c.args.clients c.args.books.now c.loop-book.book-index c.book-item.result c.loop-book-test.true c.book-item.is c.loop-book.invariant.fit c.in_ok-push_book.ensures.fits;
}

pub returns-clause-spelled : goal.returns-clause-spelled
returns-clause-spelled c = octets_all c.args.clients c.args.books.now c.loop-book.book-index c.loop-book.octets.items c.loop-book-test.false c.loop-book.invariant.spelled

pub returns-clause-fit : goal.returns-clause-fit
returns-clause-fit c = fit_all c.args.clients c.args.books.now c.loop-book.book-index c.loop-book-test.false (omega arith) c.loop-book.invariant.fit
