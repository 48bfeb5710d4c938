use Rattle.std.proofs.Common.{◌≤◌, ◌<◌, length, rules}
use Rattle.rsl_book.proofs.PutBack.{asked_stops, fits_back, linked_asks, many_asks, many_places, many_stops, numbered_links, put_together}
use Rattle.rsl_book.proofs.book.Book.restore_in.Goals as goal

pub returns-then-len-gt-KEPT_ASKS-clause-fault : goal.returns-then-len-gt-KEPT_ASKS-clause-fault
returns-then-len-gt-KEPT_ASKS-clause-fault c _ =
    let many : 8 < length c.args.saved.now.asks.items = search rules in
    many_asks c.args.blank.rules c.args.saved.now many

pub returns-then-len-gt-KEPT_STOPS-clause-fault : goal.returns-then-len-gt-KEPT_STOPS-clause-fault
returns-then-len-gt-KEPT_STOPS-clause-fault c _ =
    let few : length c.args.saved.now.asks.items ≤ 8 = search rules in
    let many : 16 < length c.args.saved.now.stops.items = search rules in
    many_stops c.args.blank.rules c.args.saved.now few many

pub put_links-requires-clause-none : goal.put_links-requires-clause-none
put_links-requires-clause-none c =
    numbered_links c.args.blank.rules c.args.saved.now.clock c.args.saved.now.accepts c.args.saved.now.over c.args.blank c.set_numbers.new.self c.requires c.set_numbers.ensures

pub returns-then-not-fits-clause-fault : goal.returns-then-not-fits-clause-fault
returns-then-not-fits-clause-fault c _ =
    let saved = c.args.saved.now in
    let few_asks : length saved.asks.items ≤ 8 = search rules in
    let few_stops : length saved.stops.items ≤ 16 = search rules in
    many_places c.args.blank.rules saved c.args.blank c.set_numbers.new.self few_asks few_stops c.requires c.set_numbers.ensures
    (rw (← c.as_slice.ensures.value) (c.in_ok-fits.ensures.full c.if-not-fits.true))

pub put_asks-requires-clause-none : goal.put_asks-requires-clause-none
put_asks-requires-clause-none c =
    let saved = c.args.saved.now in
    linked_asks c.args.blank.rules saved.clock saved.accepts saved.over _ c.args.blank c.set_numbers.new.self c.put_links.new.self c.requires c.set_numbers.ensures
    (c.in_ok-fits.ensures.put c.if-not-fits.false)

pub put_stops-requires-clause-none : goal.put_stops-requires-clause-none
put_stops-requires-clause-none c =
    let saved = c.args.saved.now in
    asked_stops c.args.blank.rules saved.clock saved.accepts saved.over _ _ c.args.blank c.set_numbers.new.self c.put_links.new.self c.put_asks.new.self c.requires c.set_numbers.ensures
    (c.in_ok-fits.ensures.put c.if-not-fits.false) c.in_ok-put_asks.ensures

pub returns-clause-book : goal.returns-clause-book
returns-clause-book c =
    let saved = c.args.saved.now in
    let few_asks : length saved.asks.items ≤ 8 = search rules in
    let few_stops : length saved.stops.items ≤ 16 = search rules in
    fits_back c.args.blank.rules saved c.put_stops.new.self few_asks few_stops
    (put_together c.args.blank.rules saved c.args.blank c.set_numbers.new.self c.put_links.new.self c.put_asks.new.self c.put_stops.new.self c.requires c.set_numbers.ensures
    (rw (← c.as_slice.ensures.value) (c.in_ok-fits.ensures.put c.if-not-fits.false))
    (rw (← c.as_slice-2.ensures.value) c.in_ok-put_asks.ensures)
    (rw (← c.as_slice-3.ensures.value) c.in_ok-put_stops.ensures))
    c.open_invariant.ensures.limit
