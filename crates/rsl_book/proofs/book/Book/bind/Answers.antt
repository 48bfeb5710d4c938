use Rattle.std.proofs.Common.{◌∙◌, ap}
use Rattle.rsl_session.specs.Book.{Book}
use Rattle.rsl_book.specs.RuledBook.{RuledBook}
use Rattle.rsl_links.proofs.Callers.{bind_takes}
use Rattle.rsl_book.proofs.book.Book.bind.Goals as goal

pub returns-in-Some : goal.returns-in-Some
returns-in-Some c =
    c.take_link.ensures
    ∙ ap (λ (book : Book). let made : RuledBook = record { rules = c.args.self.now.rules; book = book } in made)
    (bind_takes c.args.self.now.rules c.args.self.now.book c.args.nas c.args.id c.args.bundle c.args.class c.args.station c.in-Some.at c.in-Some.ensures.found)
