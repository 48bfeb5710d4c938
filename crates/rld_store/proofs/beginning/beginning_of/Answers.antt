use Rattle.std.proofs.Common.{arith, ◌∙◌, ◌++◌, List, ap, map, subst, ℕ}
use Rattle.rld_spelling.specs.Books.{books_field, books_seen}
use Rattle.rld_store.specs.Generations.{counts_of}
use Rattle.rsl_session.specs.Saved.{saved_book}
use Rattle.rsl_session.specs.declared.saved.SavedBook.{SavedBook}
use Rattle.rld_spelling.specs.Headers.{header_octets}
use Rattle.rld_log.specs.Frames.{Fits}
use Rattle.rld_store.proofs.Fronts.{front_size, is_snapshot}
use Rattle.rld_store.proofs.beginning.beginning_of.Goals as goal

pub returns : goal.returns
returns c =
    let short_first : Fits c.extend_from_slice.new.self.items = omega (arith, c.in-Some.ensures.fits, c.len.ensures, c.extend_from_slice.new.self.ok) in
    let short_second : Fits c.in_ok-second.second.items = omega (arith, c.in-Some-whole_with.ensures.fits, c.len-2.ensures, c.in_ok-second.second.ok) in
    record {
      header_fits = c.has_spelling.ensures;
      header_is = c.in_ok-extend_from_slice.ensures.items ∙ ap (λ (l : List ℕ). l ++ c.deref.result.now) (c.in_ok-push.ensures ∙ ap (λ (l : List ℕ). l ++ header_octets c.args.header) c.new-first.ensures.items)
          ∙ ap (λ (l : List ℕ). header_octets c.args.header ++ l) (c.deref.ensures.value ∙ c.in_ok-table_octets.ensures);
      snapshot_is = is_snapshot (counts_of c.args.config.now) c.args.books.now c.deref-2.result.now c.in_ok-second.second.items
          (ap (λ (l : List SavedBook). map saved_book l) c.deref-2.ensures.value ∙ c.in_ok-saved.ensures.saved)
          (c.in_ok-second.ensures.spelled ∙ ap (λ (n : ℕ). (books_field n).spell (books_seen c.deref-2.result.now)) c.clients.ensures.number)
          (subst (λ (n : ℕ). (books_field n).Fits (books_seen c.deref-2.result.now)) c.clients.ensures.number c.in_ok-second.ensures.fit);
      header_short = short_first;
      snapshot_short = short_second;
      size = front_size c.extend_from_slice.new.self.items c.in_ok-second.second.items c.in-Some.end c.in-Some-whole_with.whole short_first short_second
          (omega (arith, c.in-Some.ensures.whole, c.len.ensures, c.extend_from_slice.new.self.ok)) (omega (arith, c.in-Some-whole_with.ensures.whole, c.len-2.ensures, c.in_ok-second.second.ok));
    }
