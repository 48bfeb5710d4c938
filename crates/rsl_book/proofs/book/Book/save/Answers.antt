use Rattle.rsl_session.specs.Saved.{saved_book}
use Rattle.rsl_book.proofs.Insides.{same_book}
use Rattle.rsl_book.proofs.book.Book.save.Goals as goal

pub returns-clause-saved : goal.returns-clause-saved
unfolding saved_book
returns-clause-saved c =
    let inside = c.self.inside in
    rw (← c.self.view_is)
    (same_book inside.clock inside.accepts inside.over c.in_ok-saved_links.ensures c.in_ok-saved_asks.ensures c.in_ok-saved_stops.ensures)
