use Rattle.std.proofs.Common.{◌≡◌, ◌∙◌, ap, arith}
use Rattle.circular_buffer.specs.Buffer.{Buffer}
use Rattle.rsl_book.specs.declared.kept.Kept.{Kept}
use Rattle.rsl_book.specs.declared.kept.EndedSession.{EndedSession}
use Rattle.rsl_links.specs.Seen.{links_seen}
use Rattle.rsl_book.specs.Seen.{stops_seen}
use Rattle.rsl_book.proofs.Insides.{same_value, room_in_table, pushed_stop}
use Rattle.rsl_book.proofs.PutBack.{stop_with}
use Rattle.rsl_book.proofs.book.Book.put_stop.Goals as goal

pub index_for-nas-requires : goal.index_for-nas-requires
index_for-nas-requires c =
    let room = room_in_table c.self.inside c.self.invariant in
    omega arith

pub returns : goal.returns
returns c =
    let inside = c.self.inside in
    let place = c.index_for-nas in
    let saved = c.args.saved.now in
    let links : links_seen place.new.servers inside.links.list.items ≡ links_seen inside.servers inside.links.list.items =
    place.ensures.links in
    rw (← c.self.view_is)
    (same_value inside.rules inside.clock inside.accepts inside.over links place.ensures.asks
    (ap (λ (ring : Buffer (Kept EndedSession)). stops_seen place.new.servers ring.items) c.push.ensures
    ∙ pushed_stop inside.servers place.new.servers (record { subject = record { id = c.in_ok-id.id }; at = saved.at; swept = saved.swept; nas = place.result }) inside.stops.items saved.session.nas 16 inside.stops.capacity
    c.self.invariant.stops (place.ensures.stands ∙ c.in_ok-nas.ensures.copy) place.ensures.stops
    ∙ stop_with saved c.in_ok-id.id (stops_seen inside.servers inside.stops.items) c.in_ok-id.ensures.copy))
