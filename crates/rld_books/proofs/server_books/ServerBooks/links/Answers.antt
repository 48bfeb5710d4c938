use Rattle.std.proofs.Common.{◌∙◌, List, Some, sym, ap}
use Rattle.std.specs.Option.{option_map}
use Rattle.rsl_book.specs.RuledBook.{RuledBook}
use Rattle.rsl_session.specs.Book.{BookLink}
use Rattle.rld_books.proofs.Saving.{links_of_saved}
use Rattle.rld_books.proofs.server_books.ServerBooks.links.Goals as goal

pub returns : goal.returns
returns c =
    ap (λ (l : List BookLink). Some l) (links_of_saved c.in_ok-links.field-0 c.in-Some.book.now c.in_ok-links.ensures.saved)
    ∙ sym (ap (option_map (λ (ruled : RuledBook). ruled.book.links)) c.in-Some.ensures.some)
