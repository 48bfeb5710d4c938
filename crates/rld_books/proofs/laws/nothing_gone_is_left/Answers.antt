use Rattle.rld_books.proofs.Carrying.{nothing_gone}
use Rattle.rld_books.proofs.laws.nothing_gone_is_left.Goals as goal

pub returns : goal.returns
returns c = nothing_gone
