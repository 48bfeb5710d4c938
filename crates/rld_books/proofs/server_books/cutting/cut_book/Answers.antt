use Rattle.std.proofs.Common.{◌≡◌, ◌∙◌, List, length, map, refl, sym, ap}
use Rattle.std.proofs.lemmas.List.{length-map, with_items_is}
use Rattle.rsl_session.specs.Saved.{saved_links}
use Rattle.rsl_session.specs.declared.saved.SavedBook.{SavedBook}
use Rattle.rsl_session.specs.declared.saved.SavedLink.{SavedLink}
use Rattle.rld_books.specs.Cut.{cut_ask, cut_link, cut_stop}
use Rattle.rld_books.proofs.Cutting.{book_cut, same_length}
use Rattle.rld_books.proofs.server_books.cutting.cut_book.Goals as goal

pub returns : goal.returns
returns c =
    let kept : SavedBook = c.args.kept.now in
    let links : saved_links c.cut_links.new.links ≡ map (cut_link c.args.now) (saved_links kept.links.items) =
    c.cut_links.ensures ∙ ap (λ (l : List SavedLink). map (cut_link c.args.now) (saved_links l)) c.as_mut_slice.ensures.value in
    let asks : c.cut_asks.new.asks ≡ map (cut_ask c.args.now) kept.asks.items = c.cut_asks.ensures ∙ ap (map (cut_ask c.args.now)) c.as_mut_slice-2.ensures.value in
    let stops : c.cut_stops.new.stops ≡ map (cut_stop c.args.now) kept.stops.items = c.cut_stops.ensures ∙ ap (map (cut_stop c.args.now)) c.as_mut_slice-3.ensures.value in
    book_cut c.args.now kept _ c.earlier-kept.ensures
    (ap saved_links (with_items_is kept.links c.cut_links.new.links (same_length c.args.now kept.links.items c.cut_links.new.links links ∙ sym kept.links.ok.0)) ∙ links)
    (with_items_is kept.asks c.cut_asks.new.asks (ap length asks ∙ length-map kept.asks.items (cut_ask c.args.now) ∙ sym kept.asks.ok.0) ∙ asks)
    (with_items_is kept.stops c.cut_stops.new.stops (ap length stops ∙ length-map kept.stops.items (cut_stop c.args.now) ∙ sym kept.stops.ok.0) ∙ stops)
    refl refl
