use Rattle.rld_spelling.proofs.TableSpelledLaws.{table_read}
use Rattle.rld_spelling.proofs.laws.tables_are_read.Goals as goal

pub returns : goal.returns
returns c = table_read
