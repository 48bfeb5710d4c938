use Rattle.rld_spelling.proofs.Numbered.{pair_read}
use Rattle.rld_spelling.proofs.laws.pairs_are_read.Goals as goal

pub returns : goal.returns
returns c = pair_read
