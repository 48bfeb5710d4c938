use Rattle.std.proofs.Common.{◌∙◌, ap, refl}
use Rattle.rsl_book.proofs.Insides.{same_value, within_seen}
use Rattle.rsl_links.proofs.Callers.{seen_without}
use Rattle.rsl_links.specs.Seen.{links_seen}
use Rattle.rsl_book.proofs.book.Book.end_link.Goals as goal

pub end_at-requires-clause-within : goal.end_at-requires-clause-within
end_at-requires-clause-within c = within_seen c.self.inside c.args.self.now c.args.at c.self.view_is c.requires

pub returns : goal.returns
returns c =
    let inside = c.self.inside in
    rw (← c.self.view_is)
    (same_value inside.rules inside.clock inside.accepts inside.over
    (ap (links_seen inside.servers) c.end_at.ensures.links ∙ seen_without inside.servers inside.links.list.items c.args.at) refl refl)
