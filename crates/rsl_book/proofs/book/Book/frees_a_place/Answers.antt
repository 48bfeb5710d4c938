use Rattle.std.proofs.Common.{◌+◌, cond, sym, ◌∙◌, ap}
use Rattle.rsl_book.proofs.Insides.{held_places, within_seen}
use Rattle.rsl_links.proofs.Callers.{seen_without}
use Rattle.rsl_session.specs.Places.{places_of}
use Rattle.rsl_session.specs.Book.{bundles_in}
use Rattle.rsl_links.specs.Steps.{without_at}
use Rattle.rsl_links.specs.Seen.{links_seen}
use Rattle.rsl_book.proofs.book.Book.frees_a_place.Goals as goal

pub frees_a_place-requires-clause-within : goal.frees_a_place-requires-clause-within
frees_a_place-requires-clause-within c = within_seen c.self.inside c.args.self.now c.args.at c.self.view_is c.requires

pub returns : goal.returns
returns c =
    let inside = c.self.inside in
    rw (← c.self.view_is)
    (sym (held_places inside c.self.invariant) ∙ c.self.invariant.counted.places ∙ c.frees_a_place.ensures
    ∙ ap (λ links. places_of inside.links.ports (bundles_in links) + cond c.frees_a_place.result 1 0) (seen_without inside.servers inside.links.list.items c.args.at)
    ∙ ap (λ ports. places_of ports (bundles_in (without_at c.args.at (links_seen inside.servers inside.links.list.items))) + cond c.frees_a_place.result 1 0) c.self.invariant.ports)
