use Rattle.std.proofs.Common.{◌∙◌, ap, refl}
use Rattle.rsl_book.proofs.Insides.{same_value, within_seen}
use Rattle.rsl_links.proofs.Callers.{seen_changed, seen_taken}
use Rattle.rsl_links.specs.Seen.{links_seen}
use Rattle.rsl_links.specs.Steps.{take_here}
use Rattle.rsl_links.specs.Changed.{taken_link}
use Rattle.rsl_book.proofs.book.Book.take_link.Goals as goal

pub take_at-requires-clause-within : goal.take_at-requires-clause-within
take_at-requires-clause-within c = within_seen c.self.inside c.args.self.now c.args.at c.self.view_is c.requires

pub returns : goal.returns
returns c =
    let inside = c.self.inside in
    rw (← c.self.view_is)
    (same_value inside.rules inside.clock inside.accepts inside.over
    (ap (links_seen inside.servers) c.take_at.ensures.links
    ∙ seen_changed inside.servers (taken_link inside.clock c.args.id c.args.bundle c.args.station) (take_here inside.clock c.args.id c.args.bundle c.args.station) inside.links.list.items c.args.at
    (seen_taken inside.servers inside.clock c.args.id c.args.bundle c.args.station)) refl refl)
