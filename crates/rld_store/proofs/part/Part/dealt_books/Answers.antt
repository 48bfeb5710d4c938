use Rattle.std.proofs.Common.{◌∙◌, ℕ, List, map, ap, subst}
use Rattle.rsl_session.specs.Book.{Book}
use Rattle.rsl_session.specs.Saved.{saved_book}
use Rattle.rsl_session.specs.declared.saved.SavedBook.{SavedBook}
use Rattle.rld_books.specs.Dealt.{AreDealt}
use Rattle.rld_spelling.specs.Books.{books_field, books_seen}
use Rattle.rld_store.proofs.States.{all_running}
use Rattle.rld_store.proofs.part.Part.dealt_books.Goals as goal

pub returns-in-Ok-restore_dealt-clause-spelled : goal.returns-in-Ok-restore_dealt-clause-spelled
returns-in-Ok-restore_dealt-clause-spelled c = record {
  books = books_seen c.in-Ok.saved.items;
  are = subst (λ (l : List Book). AreDealt c.args.shards l c.in-Ok-restore_dealt.dealt)
      (ap (λ (l : List SavedBook). map saved_book l) c.deref.ensures.value ∙ all_running c.in-Ok.saved.items) c.in-Ok-restore_dealt.ensures.dealt;
  fit = subst (λ (n : ℕ). (books_field n).Fits (books_seen c.in-Ok.saved.items)) c.clients.ensures.number c.in-Ok.ensures.found.1;
  spelled = c.in-Ok.ensures.found.0 ∙ ap (λ (n : ℕ). (books_field n).spell (books_seen c.in-Ok.saved.items)) c.clients.ensures.number;
}
