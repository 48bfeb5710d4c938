use Rattle.std.proofs.Common.{◌≡◌, ◌∙◌, List, map, sym, ap}
use Rattle.std.proofs.lemmas.List.{with_items_is}
use Rattle.std.proofs.lemmas.Result.{err_from_is_err_and}
use Rattle.rsl_session.specs.Saved.{saved_book}
use Rattle.rsl_session.specs.declared.saved.SavedBook.{SavedBook}
use Rattle.rld_books.specs.Cut.{cut_book}
use Rattle.rld_books.specs.Saved.{saved_server, server_misfit}
use Rattle.rld_books.proofs.Cutting.{put_back_cut, same_count}
use Rattle.rld_books.proofs.Misfits.{cut_can_be_put_back, for_memory}
use Rattle.rld_books.proofs.server_books.ServerBooks.cut.Goals as goal

pub returns-clause-cut : goal.returns-clause-cut
returns-clause-cut c = λ of.
    let cut : map saved_book c.cut_each.new.kept ≡ map (cut_book c.args.now) (map saved_book c.in_ok-kept.kept.items) =
    c.cut_each.ensures ∙ ap (λ (l : List SavedBook). map (cut_book c.args.now) (map saved_book l)) c.as_mut_slice.ensures.value in
    put_back_cut c.args.config.now c.args.now c.args.self.now c.in_ok-books.books c.in_ok-kept.kept.items c.cut_each.new.kept of c.in_ok-books.ensures.server
    c.in_ok-kept.ensures.saved cut
    (c.in_ok-books.ensures.saved ∙ ap (map saved_book) (c.as_slice-2.ensures.value
    ∙ with_items_is c.in_ok-kept.kept c.cut_each.new.kept (same_count c.args.now c.in_ok-kept.kept.items c.cut_each.new.kept cut ∙ sym c.in_ok-kept.kept.ok.0)))

pub returns-in_err-books-clause-memory : goal.returns-in_err-books-clause-memory
returns-in_err-books-clause-memory c = λ of.
    let cut : map saved_book c.cut_each.new.kept ≡ map (cut_book c.args.now) (map saved_book c.in_ok-kept.kept.items) =
    c.cut_each.ensures ∙ ap (λ (l : List SavedBook). map (cut_book c.args.now) (map saved_book l)) c.as_mut_slice.ensures.value in
    let given : map saved_book c.as_slice-2.result.now ≡ map (cut_book c.args.now) (saved_server c.args.self.now) =
    ap (map saved_book) (c.as_slice-2.ensures.value
    ∙ with_items_is c.in_ok-kept.kept c.cut_each.new.kept (same_count c.args.now c.in_ok-kept.kept.items c.cut_each.new.kept cut ∙ sym c.in_ok-kept.kept.ok.0))
    ∙ cut ∙ ap (map (cut_book c.args.now)) c.in_ok-kept.ensures.saved in
    let p = err_from_is_err_and c.from_residual-in_err-books.result c.from_residual-in_err-books.ensures.1 in
    rw (p.1, p.2)
    (for_memory (server_misfit c.args.config.now (map saved_book c.as_slice-2.result.now)) c.in_err-books.field-0.0
    (ap (server_misfit c.args.config.now) given ∙ cut_can_be_put_back c.args.config.now c.args.now c.args.self.now of c.in_ok-kept.ensures.fit) c.in_err-books.ensures.fault)
