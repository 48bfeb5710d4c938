use Rattle.std.proofs.Common.{take, All}
use Rattle.rld_spelling.specs.Moves.{MoveFits}
use Rattle.rld_spelling.proofs.moves.Counts.all_fit.Given as goal

abbrev pub invariant-loop-moved : goal.invariant-loop-moved
invariant-loop-moved l = All (MoveFits l.self) (take l.moved-index l.moves)
