use Rattle.rsl_book.proofs.Insides.{held_places}
use Rattle.rsl_book.proofs.book.Book.held.Goals as goal

pub returns-clause-places : goal.returns-clause-places
returns-clause-places c = rw (← c.self.view_is) (held_places c.self.inside c.self.invariant)
