use Rattle.rld_books.proofs.Carrying.{repeats_stay}
use Rattle.rld_books.proofs.laws.repeats_open_nothing.Goals as goal

pub returns : goal.returns
returns c = repeats_stay
