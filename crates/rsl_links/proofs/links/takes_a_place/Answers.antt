use Rattle.rsl_links.proofs.Opened.{share_more}
use Rattle.rsl_links.proofs.links.takes_a_place.Goals as goal

pub returns : goal.returns
returns c = share_more c.args.others c.args.ports c.requires
