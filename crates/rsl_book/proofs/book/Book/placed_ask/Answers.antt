use Rattle.std.proofs.Common.{◌≤◌, ap, sym, ◌∙◌, arith}
use Rattle.rsl_accounts.specs.declared.rules.Rules.{Rules}
use Rattle.rsl_session.specs.Book.{places_in}
use Rattle.rsl_links.proofs.Callers.{placed_fits, placed_full, placed_in_place, placed_tight}
use Rattle.rsl_book.proofs.book.Book.placed_ask.Goals.{in_default-via-in-Some+else-fits_without, in_default-via-in_default}
use Rattle.rsl_book.proofs.book.Book.placed_ask.Goals as goal

pub returns-then-held-rules-clause-step : goal.returns-then-held-rules-clause-step
returns-then-held-rules-clause-step c =
    let value = c.args.self.now in
    let held = c.held.ensures.places in
    let places = ap (λ (rules : Rules). rules.places) c.rules.ensures.rules in
    let free = c.if-held-rules.true in
    placed_fits value.rules value.book c.args.key c.args.nas c.args.station (c.accept.new.self.book, c.accept.result) (omega arith) c.accept.ensures.step

pub returns-in-Some-clause-step : goal.returns-in-Some-clause-step
returns-in-Some-clause-step c =
    let value = c.args.self.now in
    let held = c.held.ensures.places in
    let places = ap (λ (rules : Rules). rules.places) c.rules.ensures.rules in
    let full = c.if-held-rules.false in
    placed_in_place value.rules value.book c.args.key c.args.nas c.args.station (c.accept_in_place.new.self.book, c.accept_in_place.result) c.in-Some.at (omega arith) c.in-Some.ensures.found
    (sym c.fits_without.ensures ∙ c.if-fits_without.true) c.accept_in_place.ensures.step

pub returns-in_default-clause-step : goal.returns-in_default-clause-step
returns-in_default-clause-step c =
    let value = c.args.self.now in
    let held = c.held.ensures.places in
    let places = ap (λ (rules : Rules). rules.places) c.rules.ensures.rules in
    let tight = c.if-held-rules.false in
    let full : value.rules.places ≤ places_in value.rules value.book = omega (arith, held, places, tight) in
    elim c.in_default.branch [
      | in_default-via-in-Some+else-fits_without w ↦ placed_tight value.rules value.book c.args.key c.args.nas c.args.station (c.refuse.new.self.book, c.refuse.result) w.in-Some.at full w.in-Some.ensures.found
          (sym w.fits_without.ensures ∙ w.if-fits_without.false) c.refuse.ensures.step
      | in_default-via-in_default w ↦ placed_full value.rules value.book c.args.key c.args.nas c.args.station (c.refuse.new.self.book, c.refuse.result) full w.in_default.ensures.missed c.refuse.ensures.step
    ]
