use Rattle.std.proofs.Common.{ap}
use Rattle.rsl_event.specs.declared.event.Decision.TheVariants.{Done}
use Rattle.rsl_session.specs.BookStep.{step}
use Rattle.rsl_book.specs.RuledBook.{RuledBook}
use Rattle.rsl_book.proofs.book.Book.tick.Goals as goal

pub returns-clause-step : goal.returns-clause-step
unfolding step
returns-clause-step c = ap (λ (value : RuledBook). (value.book, Done)) c.come_to.ensures
