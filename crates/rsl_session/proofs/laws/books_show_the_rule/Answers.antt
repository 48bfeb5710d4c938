use Rattle.rsl_session.proofs.BookFigures.{figures}
use Rattle.rsl_session.proofs.laws.books_show_the_rule.Goals as goal

pub returns : goal.returns
returns c rules past = figures rules past
