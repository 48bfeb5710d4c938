use Rattle.rsl_session.proofs.BookJoined.{books_decide}
use Rattle.rsl_session.proofs.laws.books_decide_as_the_rule.Goals as goal

pub returns : goal.returns
returns c rules events = books_decide rules events
