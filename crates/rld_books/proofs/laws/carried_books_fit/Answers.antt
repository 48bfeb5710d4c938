use Rattle.rld_books.proofs.Fitting.{fits_again}
use Rattle.rld_books.proofs.laws.carried_books_fit.Goals as goal

pub returns : goal.returns
returns c = fits_again
