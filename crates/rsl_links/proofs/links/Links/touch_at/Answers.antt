use Rattle.std.proofs.Common.{List, ◌-◌, length, sym, ◌∙◌, ap, arith}
use Rattle.rsl_session.specs.Places.{places_of}
use Rattle.rsl_session.specs.Book.{bundles_in}
use Rattle.rsl_links.specs.declared.link.Link.{Link}
use Rattle.rsl_links.specs.Changed.{joined_link, stationed_link}
use Rattle.rsl_links.specs.Seen.{links_seen}
use Rattle.rsl_links.proofs.Found.{length-change_at, touched_after}
use Rattle.rsl_links.proofs.Indexed.{indexed_touched}
use Rattle.rsl_links.proofs.Touching.{joined_less, joined_within, one_of}
use Rattle.rsl_links.proofs.links.Links.touch_at.Goals as goal

pub overflow_sub-self : goal.overflow_sub-self
overflow_sub-self c =
    let within = joined_within c.joins_a_place.result c.args.self.now.places _ _ c.requires.counted.places (c.joins_a_place.ensures c.args.now c.args.station) in
    let one = one_of c.joins_a_place.result c.from.result c.from.ensures in
    omega (arith, within, one)

pub move_to-requires : goal.move_to-requires
move_to-requires c =
    let long = ap length c.join.ensures.items in
    let kept = length-change_at (joined_link c.args.bundle) c.args.self.now.list.items c.args.at in
    omega (arith, long, kept, c.requires.within)

pub renew-requires : goal.renew-requires
renew-requires c =
    let long = ap length c.join.ensures.items in
    let kept = length-change_at (joined_link c.args.bundle) c.args.self.now.list.items c.args.at in
    let moved = ap length c.move_to.ensures.items in
    let same = length-change_at (stationed_link c.args.station) c.join.new.self.items c.args.at in
    omega (arith, long, kept, moved, same, c.requires.within)

pub returns-clause-counted : goal.returns-clause-counted
returns-clause-counted c =
    let items = touched_after c.args.now c.args.bundle c.args.station c.args.self.now.list.items c.join.new.self.items c.move_to.new.self.items c.renew.new.self.items c.args.at c.join.ensures.items c.move_to.ensures.items c.renew.ensures.items in
    record {
      a_port = c.requires.counted.a_port;
      places = ap (λ n. c.args.self.now.places - n) (one_of c.joins_a_place.result c.from.result c.from.ensures)
          ∙ joined_less c.joins_a_place.result c.args.self.now.places _ _ c.requires.counted.places (c.joins_a_place.ensures c.args.now c.args.station)
          ∙ ap (λ (links : List Link). places_of c.args.self.now.ports (bundles_in (links_seen c.args.servers.now links))) (sym items);
      indexed = indexed_touched c.args.servers.now c.args.now c.args.bundle c.args.station c.args.self.now.list.items c.renew.new.self.items c.args.at items c.requires.counted.indexed;
    }

pub returns-clause-links : goal.returns-clause-links
returns-clause-links c =
    touched_after c.args.now c.args.bundle c.args.station c.args.self.now.list.items c.join.new.self.items c.move_to.new.self.items c.renew.new.self.items c.args.at c.join.ensures.items c.move_to.ensures.items c.renew.ensures.items
