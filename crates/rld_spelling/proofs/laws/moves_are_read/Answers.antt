use Rattle.rld_spelling.proofs.MoveLaws.{move_read, moves_read}
use Rattle.rld_spelling.proofs.laws.moves_are_read.Goals as goal

pub returns : goal.returns
returns c = record { moves = move_read; batches = moves_read }
