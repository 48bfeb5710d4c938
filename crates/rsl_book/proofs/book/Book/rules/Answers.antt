use Rattle.rsl_book.proofs.Insides.{within_limit}
use Rattle.rsl_book.proofs.book.Book.rules.Goals as goal

pub returns-clause-fit : goal.returns-clause-fit
returns-clause-fit c = c.self.invariant.fit

pub returns-clause-limit : goal.returns-clause-limit
returns-clause-limit c = rw (← c.self.view_is) (within_limit c.self.inside c.self.invariant)
