use Rattle.std.proofs.Common.{◌∙◌, ap}
use Rattle.rsl_session.specs.BookStep.{step, act_on}
use Rattle.rsl_book.specs.RuledBook.{RuledBook}
use Rattle.rsl_book.proofs.book.Book.apply.Goals as goal

pub returns-clause-step : goal.returns-clause-step
unfolding step
returns-clause-step c = c.act-decision.ensures.step ∙ ap (λ (value : RuledBook). act_on value.rules value.book c.args.event.act) c.come_to.ensures
