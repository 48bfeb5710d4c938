use Rattle.std.proofs.Common.{ap}
use Rattle.rsl_event.specs.declared.event.Decision.TheVariants.{Done}
use Rattle.rsl_session.specs.Binding.{bundle_of}
use Rattle.rsl_book.specs.RuledBook.{RuledBook}
use Rattle.rsl_book.proofs.book.Book.act.Goals as goal

pub returns-in-Alive-clause-step : goal.returns-in-Alive-clause-step
unfolding bundle_of
returns-in-Alive-clause-step c = rw c.in-Alive.is (ap (λ (value : RuledBook). (value.book, Done)) c.alive.ensures)
