use Rattle.rld_books.proofs.Placing.{none_placed}
use Rattle.rld_books.proofs.place.Placed.new.Goals as goal

pub returns-clause-places : goal.returns-clause-places
returns-clause-places c = λ ports. none_placed ports
