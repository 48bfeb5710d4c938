use Rattle.rld_lives.proofs.Answering.{what_is_answered_stands}
use Rattle.rld_lives.proofs.laws.what_is_answered_stands.Goals as goal

pub returns : goal.returns
returns c = what_is_answered_stands
