use Rattle.rld_spelling.proofs.Numbered.{number_read}
use Rattle.rld_spelling.proofs.laws.numbers_are_read.Goals as goal

pub returns : goal.returns
returns c = number_read
