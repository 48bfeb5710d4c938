use Rattle.rsl_session.proofs.BookJoined.{books_hold}
use Rattle.rsl_session.proofs.laws.books_hold_the_places_of_the_rule.Goals as goal

pub returns : goal.returns
returns c rules events = books_hold rules events
