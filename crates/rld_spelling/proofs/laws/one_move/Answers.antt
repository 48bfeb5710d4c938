use Rattle.rld_spelling.proofs.MoveLaws.{one_move}
use Rattle.rld_spelling.proofs.laws.one_move.Goals as goal

pub returns : goal.returns
returns c = one_move
