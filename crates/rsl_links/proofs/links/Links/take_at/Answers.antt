use Rattle.std.proofs.Common.{List, ◌-◌, length, sym, ◌∙◌, ap, arith}
use Rattle.rsl_session.specs.Places.{places_of}
use Rattle.rsl_session.specs.Book.{bundles_in}
use Rattle.rsl_links.specs.declared.link.Link.{Link}
use Rattle.rsl_links.specs.Changed.{bound_link, joined_link}
use Rattle.rsl_links.specs.Seen.{links_seen}
use Rattle.rsl_links.proofs.Found.{length-change_at, taken_after}
use Rattle.rsl_links.proofs.Opened.{bundles_taken}
use Rattle.rsl_links.proofs.Indexed.{indexed_taken}
use Rattle.rsl_links.proofs.Touching.{joined_less, joined_within, one_of}
use Rattle.rsl_links.proofs.links.Links.take_at.Goals as goal

pub overflow_sub-self : goal.overflow_sub-self
overflow_sub-self c =
    let within = joined_within c.joins_a_place.result c.args.self.now.places _ _ c.requires.counted.places (c.joins_a_place.ensures c.args.now c.args.station) in
    let one = one_of c.joins_a_place.result c.from.result c.from.ensures in
    omega (arith, within, one)

pub join-requires : goal.join-requires
join-requires c =
    let long = ap length c.bind.ensures.items in
    let kept = length-change_at (bound_link c.args.now c.args.id) c.args.self.now.list.items c.args.at in
    omega (arith, long, kept, c.requires.within)

pub move_to-requires : goal.move_to-requires
move_to-requires c =
    let long = ap length c.bind.ensures.items in
    let kept = length-change_at (bound_link c.args.now c.args.id) c.args.self.now.list.items c.args.at in
    let joined = ap length c.join.ensures.items in
    let same = length-change_at (joined_link c.args.bundle) c.bind.new.self.items c.args.at in
    omega (arith, long, kept, joined, same, c.requires.within)

pub returns-clause-counted : goal.returns-clause-counted
returns-clause-counted c =
    let items = taken_after c.args.now c.args.id c.args.bundle c.args.station c.args.self.now.list.items c.bind.new.self.items c.join.new.self.items c.move_to.new.self.items c.args.at c.bind.ensures.items c.join.ensures.items c.move_to.ensures.items in
    record {
      a_port = c.requires.counted.a_port;
      places = ap (λ n. c.args.self.now.places - n) (one_of c.joins_a_place.result c.from.result c.from.ensures)
          ∙ joined_less c.joins_a_place.result c.args.self.now.places _ _ c.requires.counted.places (c.joins_a_place.ensures c.args.now c.args.station)
          ∙ ap (places_of c.args.self.now.ports) (sym (ap (λ (links : List Link). bundles_in (links_seen c.args.servers.now links)) items
          ∙ bundles_taken c.args.servers.now c.args.now c.args.id c.args.bundle c.args.station c.args.self.now.list.items c.args.at));
      indexed = indexed_taken c.args.servers.now c.args.now c.args.id c.args.bundle c.args.station c.args.self.now.list.items c.move_to.new.self.items c.args.at items c.requires.counted.indexed;
    }

pub returns-clause-links : goal.returns-clause-links
returns-clause-links c =
    taken_after c.args.now c.args.id c.args.bundle c.args.station c.args.self.now.list.items c.bind.new.self.items c.join.new.self.items c.move_to.new.self.items c.args.at c.bind.ensures.items c.join.ensures.items c.move_to.ensures.items
