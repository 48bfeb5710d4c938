use Rattle.rld_spelling.proofs.Numbered.{exactly_read}
use Rattle.rld_spelling.proofs.laws.same_numbers_are_read.Goals as goal

pub returns : goal.returns
returns c = exactly_read
