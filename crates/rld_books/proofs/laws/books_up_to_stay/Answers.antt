use Rattle.rld_books.proofs.Cutting.{up_to_stays}
use Rattle.rld_books.proofs.laws.books_up_to_stay.Goals as goal

pub returns : goal.returns
returns c = up_to_stays
