use Rattle.rld_books.proofs.Cutting.{cut_is_up_to}
use Rattle.rld_books.proofs.laws.cut_books_are_up_to.Goals as goal

pub returns : goal.returns
returns c = cut_is_up_to
