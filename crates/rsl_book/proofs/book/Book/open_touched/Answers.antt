use Rattle.std.proofs.Common.{◌≡◌, ◌∙◌, arith, cond}
use Rattle.rsl_links.specs.Seen.{links_seen, bundle_with, server_at}
use Rattle.rsl_book.proofs.Insides.{same_value, room_in_table, room_for_one, counted_again, opened_within, opened_seen, as_saved_seen, open_sum}
use Rattle.rsl_links.proofs.Callers.{one_of}
use Rattle.rsl_book.proofs.book.Book.open_touched.Goals as goal

pub index_for-nas-requires : goal.index_for-nas-requires
index_for-nas-requires c =
    let room = room_in_table c.self.inside c.self.invariant in
    omega arith

pub open-requires-clause-room : goal.open-requires-clause-room
open-requires-clause-room c =
    let inside = c.self.inside in
    let sound = c.self.invariant in
    let place = c.index_for-nas in
    let links : links_seen place.new.servers inside.links.list.items ≡ links_seen inside.servers inside.links.list.items =
    place.ensures.links in
    let fits = c.if-self-more.true in
    room_for_one place.new.servers inside.links inside.rules.places inside.rules.ports (cond c.adds_a_place.result 1 0) _ (bundle_with (server_at place.new.servers place.result) c.args.bundle)
    (counted_again inside.servers place.new.servers inside.links links place.ensures.placed sound.counted) c.adds_a_place.ensures (let same = one_of c.adds_a_place.result c.from-more.result c.from-more.ensures in omega arith) sound.ports sound.room

pub invariant_of-self : goal.invariant_of-self
invariant_of-self c =
    let inside = c.self.inside in
    let sound = c.self.invariant in
    let place = c.index_for-nas in
    let links : links_seen place.new.servers inside.links.list.items ≡ links_seen inside.servers inside.links.list.items =
    place.ensures.links in
    let fits = c.if-self-more.true in
    record {
      fit = sound.fit;
      ports = c.open.ensures.ports ∙ sound.ports;
      counted = c.open.ensures.counted;
      limit = opened_within place.new.servers inside.links c.open.new.self (record { nas = place.result; holder = c.args.holder; bundle = c.args.bundle; station = c.args.station; opened = c.args.opened; touched = c.args.touched }) inside.rules.places (cond c.adds_a_place.result 1 0)
          (counted_again inside.servers place.new.servers inside.links links place.ensures.placed sound.counted) c.open.ensures.counted c.open.ensures.links c.open.ensures.ports
          c.adds_a_place.ensures (let same = one_of c.adds_a_place.result c.from-more.result c.from-more.ensures in omega arith);
      room = let room = sound.room in let same = c.open.ensures.room in omega arith;
      table = let table = sound.table in let same = place.ensures.len in omega arith;
      asks = sound.asks;
      stops = sound.stops;
    }

pub returns-then-self-more-clause-put : goal.returns-then-self-more-clause-put
returns-then-self-more-clause-put c fits =
    let inside = c.self.inside in
    let place = c.index_for-nas in
    let links : links_seen place.new.servers inside.links.list.items ≡ links_seen inside.servers inside.links.list.items =
    place.ensures.links in
    rw (← c.self.view_is)
    (same_value inside.rules inside.clock inside.accepts inside.over
    (opened_seen inside.servers place.new.servers (record { nas = place.result; holder = c.args.holder; bundle = c.args.bundle; station = c.args.station; opened = c.args.opened; touched = c.args.touched }) inside.links.list.items c.open.new.self.list.items _
    c.open.ensures.links links (as_saved_seen place.new.servers place.result c.args.opened c.args.touched c.args.holder c.args.bundle c.args.station c.args.nas place.ensures.stands))
    place.ensures.asks place.ensures.stops)

pub returns-then-self-more-clause-fits : goal.returns-then-self-more-clause-fits
returns-then-self-more-clause-fits c taken =
    let inside = c.self.inside in
    let sound = c.self.invariant in
    let place = c.index_for-nas in
    let sum = open_sum inside.servers place.new.servers inside.links inside.rules.ports place.result (cond c.adds_a_place.result 1 0) c.args.nas c.args.bundle place.ensures.links place.ensures.stands sound.ports sound.counted c.adds_a_place.ensures in
    let fits = c.if-self-more.true in
    let same = one_of c.adds_a_place.result c.from-more.result c.from-more.ensures in
    rw (← c.self.view_is) (omega arith)
