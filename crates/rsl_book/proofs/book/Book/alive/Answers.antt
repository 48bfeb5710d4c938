use Rattle.std.proofs.Common.{◌∙◌, ap}
use Rattle.rsl_session.specs.Book.{Book}
use Rattle.rsl_book.specs.RuledBook.{RuledBook}
use Rattle.rsl_links.proofs.Callers.{alive_renews}
use Rattle.rsl_book.proofs.book.Book.alive.Goals as goal

pub returns-in-Some : goal.returns-in-Some
returns-in-Some c =
    c.touch_link.ensures
    ∙ ap (λ (book : Book). let made : RuledBook = record { rules = c.args.self.now.rules; book = book } in made)
    (alive_renews c.args.self.now.rules c.args.self.now.book (record { nas = c.args.nas; id = c.args.id }) c.args.bundle c.args.class c.args.station c.in-Some.at c.in-Some.ensures.found)
