use Rattle.rld_spelling.proofs.HeaderLaws.{header_read}
use Rattle.rld_spelling.proofs.laws.headers_are_read.Goals as goal

pub returns : goal.returns
returns c = header_read
