use Rattle.std.proofs.Common.{sym, ◌∙◌}
use Rattle.rsl_links.proofs.Callers.{fresh_alone, fresh_in_place, fresh_tight}
use Rattle.rsl_book.proofs.book.Book.fresh_ask.Goals.{in_default-via-in-Some+else-fits_without, in_default-via-in_default}
use Rattle.rsl_book.proofs.book.Book.fresh_ask.Goals as goal

pub returns-in-Some-clause-step : goal.returns-in-Some-clause-step
returns-in-Some-clause-step c =
    let value = c.args.self.now in
    fresh_in_place value.rules value.book c.args.key c.args.nas c.args.station (c.accept_in_place.new.self.book, c.accept_in_place.result) c.in-Some.at c.in-Some.ensures.found
    (sym c.fits_without.ensures ∙ c.if-fits_without.true) c.accept_in_place.ensures.step

pub returns-in_default-clause-step : goal.returns-in_default-clause-step
returns-in_default-clause-step c =
    let value = c.args.self.now in
    elim c.in_default.branch [
      | in_default-via-in-Some+else-fits_without w ↦ fresh_tight value.rules value.book c.args.key c.args.nas c.args.station (c.placed_ask.new.self.book, c.placed_ask.result) w.in-Some.at w.in-Some.ensures.found
          (sym w.fits_without.ensures ∙ w.if-fits_without.false) c.placed_ask.ensures.step
      | in_default-via-in_default w ↦ fresh_alone value.rules value.book c.args.key c.args.nas c.args.station (c.placed_ask.new.self.book, c.placed_ask.result) w.in_default.ensures.missed c.placed_ask.ensures.step
    ]
