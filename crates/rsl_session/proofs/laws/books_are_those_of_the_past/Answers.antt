use Rattle.rsl_session.proofs.BookJoined.{books_are}
use Rattle.rsl_session.proofs.laws.books_are_those_of_the_past.Goals as goal

pub returns : goal.returns
returns c rules events = books_are rules events
