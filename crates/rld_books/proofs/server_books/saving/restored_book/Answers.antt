use Rattle.std.proofs.Common.{◌≡◌, Ok, subst}
use Rattle.rsl_book.specs.Restored.{restored}
use Rattle.rsl_book.specs.RuledBook.{RuledBook}
use Rattle.rsl_session.specs.Saved.{saved_book}
use Rattle.rld_books.proofs.Saving.{put_back_is}
use Rattle.rld_books.proofs.server_books.saving.restored_book.Goals as goal

pub returns-clause-book : goal.returns-clause-book
returns-clause-book c =
    put_back_is c.args.rules (saved_book c.args.kept.now) c.in_ok-restore_in.field-0
    (subst (λ (ruled : RuledBook). restored ruled.rules (saved_book c.args.kept.now) ≡ Ok c.in_ok-restore_in.field-0) c.in_ok-blank.ensures c.in_ok-restore_in.ensures.book)
