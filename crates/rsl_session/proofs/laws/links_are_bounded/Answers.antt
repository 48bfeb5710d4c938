use Rattle.rsl_session.proofs.BookBound.{links_bounded}
use Rattle.rsl_session.proofs.laws.links_are_bounded.Goals as goal

pub returns : goal.returns
returns c rules book fit within = links_bounded rules book fit within
