use Rattle.std.proofs.Common.{ap, ◌∙◌}
use Rattle.rsl_event.specs.declared.event.Decision.TheVariants.{Done}
use Rattle.rsl_session.specs.BookStep.{step, sweep}
use Rattle.rsl_book.specs.RuledBook.{RuledBook}
use Rattle.rsl_book.proofs.book.Book.sweep.Goals as goal

pub returns-clause-step : goal.returns-clause-step
unfolding step
returns-clause-step c =
    ap (λ (value : RuledBook). (value.book, Done)) c.sweep_at.ensures
    ∙ ap (λ (value : RuledBook). (sweep value.book c.args.nas.now c.args.delay, Done)) c.come_to.ensures
