use Rattle.rld_books.proofs.Carrying.{nobody_new}
use Rattle.rld_books.proofs.laws.nobody_new_comes_in.Goals as goal

pub returns : goal.returns
returns c = nobody_new
