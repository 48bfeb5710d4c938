use Rattle.rld_values.proofs.ReadingBack.{hex_read, value_read, word_read}
use Rattle.rld_values.proofs.laws.read_back.Goals as goal

pub returns : goal.returns
returns c = record { word = word_read; value = value_read; digits = hex_read }
