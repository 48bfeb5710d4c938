use Rattle.std.proofs.Common.{◌≡◌, ◌+◌, ◌≤◌, sym, ◌∙◌, ap, subst, arith, false}
use Rattle.circular_buffer.specs.Buffer.{Buffer}
use Rattle.std.specs.Prelude.{None}
use Rattle.rsl_event.specs.declared.event.Decision.TheVariants.{Accept}
use Rattle.rsl_session.specs.Book.{Book, places_in, bundles_in}
use Rattle.rsl_book.specs.RuledBook.{RuledBook}
use Rattle.rsl_book.specs.declared.kept.Kept.{Kept}
use Rattle.rsl_book.specs.declared.kept.DecidedAsk.{DecidedAsk}
use Rattle.rsl_book.specs.BookSeen.{running}
use Rattle.rsl_links.specs.Seen.{links_seen}
use Rattle.rsl_book.specs.Seen.{asks_seen}
use Rattle.rsl_session.specs.BookStep.{accept_beside, keep_ask}
use Rattle.rsl_links.specs.declared.link.Holder.TheVariants.{Reserved as LinkReserved}
use Rattle.rsl_links.proofs.Callers.{more_alone}
use Rattle.rsl_book.proofs.Insides.{same_book, held_places, room_in_table, room_for_one, counted_again, opened_within, opened_seen, reserved_seen, pushed_ask}
use Rattle.rsl_book.proofs.book.Book.accept.Goals as goal

pub index_for-nas-requires : goal.index_for-nas-requires
index_for-nas-requires c =
    let room = room_in_table c.self.inside c.self.invariant in
    omega arith

pub open-requires-clause-room : goal.open-requires-clause-room
open-requires-clause-room c =
    let inside = c.self.inside in
    let sound = c.self.invariant in
    let place : places_in inside.rules (running inside) + 1 ≤ inside.rules.places =
    subst (λ (value : RuledBook). places_in value.rules value.book + 1 ≤ value.rules.places) (sym c.self.view_is) c.requires.place in
    let held = held_places inside sound in
    room_for_one inside.servers inside.links inside.rules.places inside.rules.ports 1 _ None sound.counted
    (more_alone inside.links.ports (bundles_in (links_seen inside.servers inside.links.list.items)) sound.counted.a_port) (omega arith) sound.ports sound.room

pub invariant_of-self : goal.invariant_of-self
invariant_of-self c =
    let inside = c.self.inside in
    let sound = c.self.invariant in
    let place = c.index_for-nas in
    let links : links_seen place.new.servers inside.links.list.items ≡ links_seen inside.servers inside.links.list.items =
    place.ensures.links in
    let free : places_in inside.rules (running inside) + 1 ≤ inside.rules.places =
    subst (λ (value : RuledBook). places_in value.rules value.book + 1 ≤ value.rules.places) (sym c.self.view_is) c.requires.place in
    let held = held_places inside sound in
    record {
      fit = sound.fit;
      ports = c.open.ensures.ports ∙ sound.ports;
      counted = c.open.ensures.counted;
      limit = opened_within place.new.servers inside.links c.open.new.self (record { nas = place.result; holder = LinkReserved inside.accepts; bundle = None; station = c.args.station; opened = inside.clock; touched = inside.clock }) inside.rules.places 1
          (counted_again inside.servers place.new.servers inside.links links place.ensures.placed sound.counted) c.open.ensures.counted c.open.ensures.links c.open.ensures.ports
          (more_alone inside.links.ports (bundles_in (links_seen place.new.servers inside.links.list.items)) sound.counted.a_port) (omega arith);
      room = let room = sound.room in let same = c.open.ensures.room in omega arith;
      table = let table = sound.table in let same = place.ensures.len in omega arith;
      asks = ap (λ (ring : Buffer (Kept DecidedAsk)). ring.capacity) c.push.ensures ∙ sound.asks;
      stops = sound.stops;
    }

pub returns-clause-step : goal.returns-clause-step
unfolding accept_beside keep_ask
returns-clause-step c =
    let inside = c.self.inside in
    let place = c.index_for-nas in
    let links : links_seen place.new.servers inside.links.list.items ≡ links_seen inside.servers inside.links.list.items =
    place.ensures.links in
    rw (← c.self.view_is)
    (ap (λ (book : Book). (book, Accept inside.accepts))
    (same_book inside.clock (inside.accepts + 1) inside.over
    (opened_seen inside.servers place.new.servers (record { nas = place.result; holder = LinkReserved inside.accepts; bundle = None; station = c.args.station; opened = inside.clock; touched = inside.clock }) inside.links.list.items c.open.new.self.list.items _
    c.open.ensures.links links (reserved_seen place.new.servers place.result inside.accepts inside.clock c.args.station c.args.nas place.ensures.stands))
    (ap (λ (ring : Buffer (Kept DecidedAsk)). asks_seen place.new.servers ring.items) c.push.ensures
    ∙ pushed_ask inside.servers place.new.servers (record { subject = record { key = c.args.key; decision = Accept inside.accepts }; at = inside.clock; swept = false; nas = place.result }) inside.asks.items c.args.nas 8 inside.asks.capacity
    c.self.invariant.asks place.ensures.stands place.ensures.asks)
    place.ensures.stops))
