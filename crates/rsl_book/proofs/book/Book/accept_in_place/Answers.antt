use Rattle.std.proofs.Common.{◌+◌, ◌≤◌, sym, ◌∙◌, ap, subst}
use Rattle.rsl_session.specs.Book.{places_in}
use Rattle.rsl_session.specs.BookStep.{accept_beside}
use Rattle.rsl_book.specs.RuledBook.{RuledBook}
use Rattle.rsl_links.specs.Steps.{without_at}
use Rattle.rsl_links.proofs.Callers.{accept_left, room_without}
use Rattle.rsl_book.proofs.book.Book.accept_in_place.Goals as goal

pub accept-requires-clause-place : goal.accept-requires-clause-place
accept-requires-clause-place c =
    let value = c.args.self.now in
    subst (λ (made : RuledBook). places_in made.rules made.book + 1 ≤ made.rules.places) (sym c.end_link.ensures)
    (room_without value.rules value.book c.args.at c.requires.fits)

pub returns-clause-step : goal.returns-clause-step
returns-clause-step c =
    let value = c.args.self.now in
    c.accept.ensures.step
    ∙ ap (λ (made : RuledBook). accept_beside made.book.links made.book c.args.key c.args.nas c.args.station) c.end_link.ensures
    ∙ accept_left (without_at c.args.at value.book.links) value.book c.args.key c.args.nas c.args.station
