use Rattle.rld_books.proofs.Placing.{more_alone, more_bundled}
use Rattle.rld_books.proofs.place.places_more.Goals as goal

pub returns-in-None : goal.returns-in-None
returns-in-None c = more_alone c.args.ports c.args.links.now c.args.link.now c.requires c.in-None.is

pub returns-in-Some : goal.returns-in-Some
returns-in-Some c =
    more_bundled c.args.ports c.members.result c.share_more.result c.args.links.now c.args.link.now c.in-Some.id c.requires c.in-Some.is c.members.ensures.members c.share_more.ensures
