use Rattle.rld_spelling.proofs.Numbered.{between_read}
use Rattle.rld_spelling.proofs.laws.numbers_between_are_read.Goals as goal

pub returns : goal.returns
returns c = between_read
