use Rattle.std.proofs.Common.{◌∙◌, ap, refl}
use Rattle.rsl_book.proofs.Insides.{same_value, within_seen}
use Rattle.rsl_links.proofs.Callers.{seen_changed, seen_touched}
use Rattle.rsl_links.specs.Seen.{links_seen}
use Rattle.rsl_links.specs.Steps.{touch_here}
use Rattle.rsl_links.specs.Changed.{touched_link}
use Rattle.rsl_book.proofs.book.Book.touch_link.Goals as goal

pub touch_at-requires-clause-within : goal.touch_at-requires-clause-within
touch_at-requires-clause-within c = within_seen c.self.inside c.args.self.now c.args.at c.self.view_is c.requires

pub returns : goal.returns
returns c =
    let inside = c.self.inside in
    rw (← c.self.view_is)
    (same_value inside.rules inside.clock inside.accepts inside.over
    (ap (links_seen inside.servers) c.touch_at.ensures.links
    ∙ seen_changed inside.servers (touched_link inside.clock c.args.bundle c.args.station) (touch_here inside.clock c.args.bundle c.args.station) inside.links.list.items c.args.at
    (seen_touched inside.servers inside.clock c.args.bundle c.args.station)) refl refl)
