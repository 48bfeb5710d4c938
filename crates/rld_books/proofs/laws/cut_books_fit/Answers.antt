use Rattle.rld_books.proofs.Cutting.{cut_fits}
use Rattle.rld_books.proofs.laws.cut_books_fit.Goals as goal

pub returns : goal.returns
returns c = cut_fits
