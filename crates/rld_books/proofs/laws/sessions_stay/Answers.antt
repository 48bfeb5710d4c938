use Rattle.rld_books.proofs.Carrying.{stay}
use Rattle.rld_books.proofs.laws.sessions_stay.Goals as goal

pub returns : goal.returns
returns c = stay
