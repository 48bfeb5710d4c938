use Rattle.rld_books.proofs.Carrying.{closed_stay}
use Rattle.rld_books.proofs.laws.closed_sessions_stay.Goals as goal

pub returns : goal.returns
returns c = closed_stay
