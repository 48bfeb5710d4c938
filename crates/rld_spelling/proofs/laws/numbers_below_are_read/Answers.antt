use Rattle.rld_spelling.proofs.Numbered.{below_read}
use Rattle.rld_spelling.proofs.laws.numbers_below_are_read.Goals as goal

pub returns : goal.returns
returns c = below_read
