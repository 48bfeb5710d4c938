use Rattle.std.proofs.Common.{◌∙◌, ap}
use Rattle.rsl_event.specs.declared.event.Act.TheVariants.{Ask}
use Rattle.rsl_session.specs.BookStep.{step, act_on}
use Rattle.rsl_book.specs.RuledBook.{RuledBook}
use Rattle.rsl_book.proofs.book.Book.ask_at.Goals as goal

pub returns-clause-step : goal.returns-clause-step
unfolding step
returns-clause-step c = c.ask-decision.ensures.step ∙ ap (λ (value : RuledBook). act_on value.rules value.book (Ask c.args.key c.args.nas c.args.station)) c.come_to.ensures
