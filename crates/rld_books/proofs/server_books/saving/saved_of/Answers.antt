use Rattle.std.proofs.Common.{ap, length, map, refl, subst, ◌∙◌}
use Rattle.std.proofs.lemmas.List.{map_push}
use Rattle.std.proofs.lemmas.List.Elements.{All-more}
use Rattle.std.proofs.lemmas.Option.{slice_get_read}
use Rattle.rsl_book.specs.Restored.{saved}
use Rattle.rsl_session.specs.Saved.{saved_book}
use Rattle.rld_books.specs.Saved.{IsFit}
use Rattle.rld_books.proofs.Numbered.{one_more}
use Rattle.rld_books.proofs.server_books.saving.saved_of.Goals as goal

pub loop-book-preserved : goal.loop-book-preserved
loop-book-preserved c = record {
  saved = ap (map saved_book) c.in_ok-push.ensures.items ∙ map_push saved_book c.loop-book.kept.items c.in_ok-save.field-0
      ∙ one_more saved c.args.books.now c.loop-book.book-index c.book-item.result (map saved_book c.loop-book.kept.items) (saved_book c.in_ok-save.field-0)
      (slice_get_read c.args.books.now (length c.args.books.now) c.loop-book.book-index c.book-item.result refl c.loop-book-test.true c.book-item.is)
      c.loop-book.invariant.saved c.in_ok-save.ensures.saved;
  fit = All-more IsFit c.args.books.now c.loop-book.book-index c.book-item.result c.loop-book-test.true c.loop-book.invariant.fit (subst IsFit c.book-item.is c.save.ensures.fits);
}
