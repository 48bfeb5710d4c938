use Rattle.rsl_book.proofs.Insides.{within_limit}
use Rattle.rsl_book.proofs.book.Book.open_invariant.Goals as goal

pub returns : goal.returns
returns c = rw (← c.self.view_is) (within_limit c.self.inside c.self.invariant)
