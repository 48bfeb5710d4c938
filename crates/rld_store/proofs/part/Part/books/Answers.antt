use Rattle.std.proofs.Common.{◌≡◌, ◌∙◌, ℕ, List, Ok, Result, map, refl, sym, ap, subst}
use Rattle.rld_spelling.specs.declared.fault.Fault.{Fault}
use Rattle.rsl_session.specs.Saved.{saved_book}
use Rattle.rsl_session.specs.declared.saved.SavedBook.{SavedBook}
use Rattle.rld_spelling.specs.Books.{BookSeen, books_field, books_seen}
use Rattle.rld_store.specs.Generations.{counts_of}
use Rattle.rld_store.proofs.Fronts.{is_snapshot}
use Rattle.rld_store.proofs.States.{put_back, read_is}
use Rattle.rld_store.proofs.part.Part.books.Goals as goal

pub returns-in-Ok-restore-clause-only : goal.returns-in-Ok-restore-clause-only
returns-in-Ok-restore-clause-only c = λ begun is of.
    let one : Result (List BookSeen) Fault = Ok of.books in
    let two : Result (List BookSeen) Fault = Ok (books_seen c.in-Ok.saved.items) in
    let only : one ≡ two = c.in-Ok.ensures.only of.books (subst (λ (n : ℕ). (books_field n).Fits of.books) (sym c.clients.ensures.number) of.fit)
    (of.spelled ∙ ap (λ (n : ℕ). (books_field n).spell of.books) (sym c.clients.ensures.number)) in
    put_back c.args.config.now begun c.in-Ok-restore.books c.in-Ok.saved.items c.args.self.payload.now is of (read_is (books_seen c.in-Ok.saved.items) of.books one two refl refl only)
    c.in-Ok-restore.ensures.server (c.in-Ok-restore.ensures.saved ∙ ap (λ (l : List SavedBook). map saved_book l) c.deref.ensures.value)

pub returns-in-Ok-restore-clause-spelled : goal.returns-in-Ok-restore-clause-spelled
returns-in-Ok-restore-clause-spelled c =
    is_snapshot (counts_of c.args.config.now) c.in-Ok-restore.books c.in-Ok.saved.items c.args.self.payload.now
    (sym (c.in-Ok-restore.ensures.saved ∙ ap (λ (l : List SavedBook). map saved_book l) c.deref.ensures.value))
    (c.in-Ok.ensures.found.0 ∙ ap (λ (n : ℕ). (books_field n).spell (books_seen c.in-Ok.saved.items)) c.clients.ensures.number)
    (subst (λ (n : ℕ). (books_field n).Fits (books_seen c.in-Ok.saved.items)) c.clients.ensures.number c.in-Ok.ensures.found.1)
